-- What an alias stands for where it has these arguments.
use Rattle.std.specs.Prelude.{ℕ, Bool, true, false, Option, Some, None, List, [], ◌∷◌, map, bytes_eq, if◌then◌else◌}
use Rattle.elm_base.specs.declared.token.At.{At}
use Rattle.elm_base.specs.declared.tree.Spot.{Spot}
use Rattle.elm_base.specs.declared.tree.TypeTree.{TypeTree}
use Rattle.elm_base.specs.declared.tree.TypeTree.TheOpen as type
use Rattle.elm_base.specs.declared.tree.TypeTree.TheVariants as t
use Rattle.elm_base.specs.declared.tree.TypeTree.TheFolds.{fold-TypeTree}
use Rattle.alias_expansion.specs.Parts.{given, named, tuple, arrow, over, all_have_types, typed_among}

-- the argument for the parameter of this name; parameters and arguments stand in one order
abbrev pub argument_for : List (List ℕ) → List (Option TypeTree) → List ℕ → Option TypeTree
argument_for [] arguments name = None
argument_for (parameter ∷ parameters) [] name = None
argument_for (parameter ∷ parameters) (argument ∷ arguments) name =
    if bytes_eq parameter name then argument else argument_for parameters arguments name

-- fields, where all are there, over the argument for the parameter before the bar, where there is one
abbrev pub over_fields : List (List ℕ) → List (Option TypeTree) → At → Option Spot → Bool → List (Spot × TypeTree) → Option TypeTree
over_fields parameters arguments at None whole fields = given whole (t.Fields at None fields)
over_fields parameters arguments at (Some before) whole fields = if whole then over at (argument_for parameters arguments before.name) fields else None

abbrev pub instance_step : List (List ℕ) → List (Option TypeTree) → type.TypeTree-F (Option TypeTree) → Option TypeTree
instance_step parameters arguments (type.Variable at name) = argument_for parameters arguments name
instance_step parameters arguments (type.Named at name parts) = named at name parts
instance_step parameters arguments (type.Arrow at from to) = arrow at from to
instance_step parameters arguments (type.Unit at) = Some (t.Unit at)
instance_step parameters arguments (type.Tuple at parts) = tuple at parts
instance_step parameters arguments (type.Brackets at inner) = inner
instance_step parameters arguments (type.Fields at before fields) =
    over_fields parameters arguments at before (all_have_types fields) (typed_among fields)

-- The type with an argument for each parameter. An argument for a parameter that doesn't stand in the type plays no part.
abbrev pub instance_of : List (List ℕ) → List (Option TypeTree) → TypeTree → Option TypeTree
instance_of parameters arguments = fold-TypeTree (Option TypeTree) (instance_step parameters arguments)

abbrev pub instance_in : List (List ℕ) → List (Option TypeTree) → Option TypeTree → Option TypeTree
instance_in parameters arguments None = None
instance_in parameters arguments (Some tree) = instance_of parameters arguments tree

-- ---- for private contracts: one form, and none of another

abbrev pub instances_of : List (List ℕ) → List (Option TypeTree) → List TypeTree → List (Option TypeTree)
instances_of parameters arguments trees = map (instance_of parameters arguments) trees

abbrev pub instances_of_fields : List (List ℕ) → List (Option TypeTree) → List (Spot × TypeTree) → List (Spot × Option TypeTree)
instances_of_fields parameters arguments fields = map (λ field. (field.0, instance_of parameters arguments field.1)) fields
