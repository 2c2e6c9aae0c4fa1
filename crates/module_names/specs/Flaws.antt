-- What is wrong with a module's names.
use Rattle.std.specs.Prelude.{ℕ, Bool, true, false, not, ◌&&◌, if◌then◌else◌, Option, Some, None, List, [], ◌∷◌, ◌++◌, map, bytes_eq}
use Rattle.std.specs.List.{flat_map, list_any}
use Rattle.elm_base.specs.declared.token.At.{At}
use Rattle.elm_base.specs.declared.fault.FaultKind.{FaultKind}
use Rattle.elm_base.specs.declared.fault.FaultKind.TheVariants as kind
use Rattle.elm_base.specs.declared.tree.Spot.{Spot}
use Rattle.elm_base.specs.declared.tree.Set.{Set}
use Rattle.elm_base.specs.declared.tree.Expr.{Expr}
use Rattle.elm_base.specs.declared.tree.Declaration.{Declaration, out-Declaration}
use Rattle.elm_base.specs.declared.tree.Declaration.TheOpen as tree
use Rattle.elm_base.specs.declared.tree.Constructors.{Constructors}
use Rattle.elm_base.specs.declared.tree.Constructors.TheVariants.{Hidden, All as Every, Listed}
use Rattle.elm_base.specs.declared.tree.Item.{Item}
use Rattle.elm_base.specs.declared.tree.Item.TheVariants as item
use Rattle.elm_base.specs.declared.tree.Import.{Import}
use Rattle.elm_base.specs.declared.tree.Exposing.{Exposing}
use Rattle.elm_base.specs.declared.tree.Exposing.TheVariants as exposing
use Rattle.name_steps.specs.declared.step.Step.{Step}
use Rattle.name_steps.specs.declared.step.Step.TheVariants as step
use Rattle.module_tops.specs.declared.top.Kind.{Kind}
use Rattle.module_tops.specs.declared.top.Kind.TheVariants.{Value, Constructor as Makes, Maker}
use Rattle.module_tops.specs.declared.top.Top.{Top}
use Rattle.module_tops.specs.Picks.{is_named}
use Rattle.module_names.specs.declared.face.Face.{Face}
use Rattle.module_names.specs.declared.flaws.Flaw.{Flaw}
use Rattle.module_names.specs.declared.walk.Use.{Use}
use Rattle.module_names.specs.declared.found.Answer.{Answer}
use Rattle.module_names.specs.declared.found.Answer.TheVariants.{Stands, Unknown, Ambiguous}

abbrev pub flaw_of : FaultKind → At → List ℕ → Flaw
flaw_of kind at name = record { at = at; kind = kind; name = name }

-- ---- names that are to differ

-- a fault where a name stands that stands among those before it
abbrev pub again : List Spot → Spot → List Flaw
again before spot = if is_named before spot.name then flaw_of kind.Duplicate spot.at spot.name ∷ [] else []

-- a fault where one of these names stands again, behind those before or another of its own
abbrev pub repeated : List Spot → List Spot → List Flaw
repeated before [] = []
repeated before (spot ∷ more) = again before spot ++ repeated (before ++ spot ∷ []) more

abbrev pub of_step : Step → List Flaw
of_step (step.Binds spots) = repeated [] spots
of_step (step.Labels spots) = repeated [] spots
of_step _ = []

abbrev pub of_steps : List Step → List Flaw
of_steps steps = flat_map of_step steps

abbrev pub parameters_layer : tree.Declaration-F Declaration Expr Set → List Flaw
parameters_layer (tree.Union at name parameters constructors) = repeated [] parameters
parameters_layer (tree.Alias at name parameters written) = repeated [] parameters
parameters_layer _ = []

-- of the parameters of a type
abbrev pub of_parameters : Declaration → List Flaw
of_parameters declaration = parameters_layer (out-Declaration declaration)

abbrev pub of_declarations : List Declaration → List Flaw
of_declarations declarations = flat_map of_parameters declarations

-- ---- uses

abbrev pub answer_flaws : Answer → Spot → List Flaw
answer_flaws (Stands thing) spot = []
answer_flaws Unknown spot = flaw_of kind.UnknownName spot.at spot.name ∷ []
answer_flaws Ambiguous spot = flaw_of kind.Ambiguous spot.at spot.name ∷ []

-- a name that stands for nothing, or for different things
abbrev pub of_use : Use → List Flaw
of_use used = answer_flaws used.answer used.spot

abbrev pub of_uses : List Use → List Flaw
of_uses uses = flat_map of_use uses

-- ---- lists of exposed names

abbrev pub is_made_of : Kind → List ℕ → Bool
is_made_of (Makes of) type = bytes_eq of type
is_made_of _ type = false

-- whether it is a constructor of the type, by this name
abbrev pub is_constructor : Top → List ℕ → List ℕ → Bool
is_constructor top type name = is_made_of top.kind type && bytes_eq top.spot.name name

abbrev pub has_constructor : List Top → List ℕ → List ℕ → Bool
has_constructor tops type name = list_any (λ top. is_constructor top type name) tops

abbrev pub has_top : List Top → List ℕ → Bool
has_top tops name = list_any (λ top. bytes_eq top.spot.name name) tops

abbrev pub of_value : FaultKind → List Top → At → List ℕ → List Flaw
of_value kind tops at name = if has_top tops name then [] else flaw_of kind at name ∷ []

abbrev pub of_type : FaultKind → List Spot → At → List ℕ → List Flaw
of_type kind types at name = if is_named types name then [] else flaw_of kind at name ∷ []

-- constructors that are listed of a type that hasn't them
abbrev pub of_listed : FaultKind → List Top → List ℕ → List Spot → List Flaw
of_listed kind tops type spots =
    flat_map (λ spot. if has_constructor tops type spot.name then [] else flaw_of kind spot.at spot.name ∷ []) spots

abbrev pub of_constructors : FaultKind → List Top → List ℕ → Constructors → List Flaw
of_constructors kind tops type (Listed spots) = of_listed kind tops type spots
of_constructors kind tops type _ = []

-- an entry that isn't among these names of values and types
abbrev pub of_item : FaultKind → List Top → List Spot → Item → List Flaw
of_item kind tops types (item.Value at name) = of_value kind tops at name
of_item kind tops types (item.Operator at name) = of_value kind tops at name
of_item kind tops types (item.Named at name constructors) = of_type kind types at name ++ of_constructors kind tops name constructors

abbrev pub of_items : FaultKind → List Top → List Spot → List Item → List Flaw
of_items kind tops types items = flat_map (of_item kind tops types) items

abbrev pub of_list : FaultKind → List Top → List Spot → Exposing → List Flaw
of_list kind tops types exposing.All = []
of_list kind tops types (exposing.Items items) = of_items kind tops types items
