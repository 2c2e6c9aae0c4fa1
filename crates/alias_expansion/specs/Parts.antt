-- Types whose parts may be missing. A type is there where all its parts are.
use Rattle.std.specs.Prelude.{ℕ, Bool, true, false, Option, Some, None, List, [], ◌∷◌, ◌++◌, map}
use Rattle.std.specs.List.{flat_map, list_all}
use Rattle.elm_base.specs.declared.token.At.{At}
use Rattle.elm_base.specs.declared.tree.Spot.{Spot}
use Rattle.elm_base.specs.declared.tree.TypeTree.{TypeTree, out-TypeTree}
use Rattle.elm_base.specs.declared.tree.TypeTree.TheOpen as type
use Rattle.elm_base.specs.declared.tree.TypeTree.TheVariants as t
use Rattle.module_tops.specs.Tops.{spot_of}

abbrev pub given : Bool → TypeTree → Option TypeTree
given true tree = Some tree
given false tree = None

abbrev pub is_there : Option TypeTree → Bool
is_there None = false
is_there (Some tree) = true

abbrev pub those : Option TypeTree → List TypeTree
those None = []
those (Some tree) = tree ∷ []

abbrev pub all_there : List (Option TypeTree) → Bool
all_there trees = list_all is_there trees

abbrev pub found_among : List (Option TypeTree) → List TypeTree
found_among trees = flat_map those trees

abbrev pub named : At → List ℕ → List (Option TypeTree) → Option TypeTree
named at name arguments = given (all_there arguments) (t.Named at name (found_among arguments))

abbrev pub tuple : At → List (Option TypeTree) → Option TypeTree
tuple at parts = given (all_there parts) (t.Tuple at (found_among parts))

abbrev pub arrow : At → Option TypeTree → Option TypeTree → Option TypeTree
arrow at None to = None
arrow at (Some from) None = None
arrow at (Some from) (Some to) = Some (t.Arrow at from to)

-- ---- fields of a record

abbrev pub has_type : Spot × Option TypeTree → Bool
has_type field = is_there field.1

abbrev pub labelled : Spot → Option TypeTree → List (Spot × TypeTree)
labelled label None = []
labelled label (Some tree) = (label, tree) ∷ []

abbrev pub typed : Spot × Option TypeTree → List (Spot × TypeTree)
typed field = labelled field.0 field.1

abbrev pub all_have_types : List (Spot × Option TypeTree) → Bool
all_have_types fields = list_all has_type fields

abbrev pub typed_among : List (Spot × Option TypeTree) → List (Spot × TypeTree)
typed_among fields = flat_map typed fields

abbrev pub closed : At → Option Spot → List (Spot × Option TypeTree) → Option TypeTree
closed at before fields = given (all_have_types fields) (t.Fields at before (typed_among fields))

-- Fields over what stands before the bar: over a variable, or over a record, whose own fields come behind them. Nothing else
-- may stand there.
abbrev pub over_layer : At → type.TypeTree-F TypeTree → List (Spot × TypeTree) → Option TypeTree
over_layer at (type.Variable place name) fields = Some (t.Fields at (Some (spot_of place name)) fields)
over_layer at (type.Fields place before more) fields = Some (t.Fields at before (fields ++ more))
over_layer at _ fields = None

abbrev pub over : At → Option TypeTree → List (Spot × TypeTree) → Option TypeTree
over at None fields = None
over at (Some tree) fields = over_layer at (out-TypeTree tree) fields
