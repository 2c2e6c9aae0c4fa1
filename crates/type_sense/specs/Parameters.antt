-- The text of an alias. Its variables are parameters, so a name that begins with `number` says nothing there.
use Rattle.std.specs.Prelude.{ℕ, Option, Some, None, List, [], ◌∷◌, ◌++◌, map, codes, if◌then◌else◌}
use Rattle.elm_base.specs.declared.tree.Spot.{Spot}
use Rattle.elm_base.specs.declared.tree.TypeTree.{TypeTree}
use Rattle.elm_base.specs.declared.tree.TypeTree.TheOpen as type
use Rattle.elm_base.specs.declared.tree.TypeTree.TheVariants as t
use Rattle.elm_base.specs.declared.tree.TypeTree.TheFolds.{fold-TypeTree}
use Rattle.typing_rules.specs.WrittenTypes.{begins}

-- another name for a parameter: one that begins with a space, as no written name does, says nothing of what it stands for
abbrev pub renamed : List ℕ → List ℕ
renamed name = if begins (codes "number") name then codes " " ++ name else name

abbrev pub renamed_spot : Spot → Spot
renamed_spot spot = record { at = spot.at; name = renamed spot.name }

abbrev pub renamed_before : Option Spot → Option Spot
renamed_before None = None
renamed_before (Some spot) = Some (renamed_spot spot)

abbrev pub parameters_step : type.TypeTree-F TypeTree → TypeTree
parameters_step (type.Variable at name) = t.Variable at (renamed name)
parameters_step (type.Named at name arguments) = t.Named at name arguments
parameters_step (type.Arrow at from to) = t.Arrow at from to
parameters_step (type.Unit at) = t.Unit at
parameters_step (type.Tuple at parts) = t.Tuple at parts
parameters_step (type.Brackets at inner) = t.Brackets at inner
parameters_step (type.Fields at before fields) = t.Fields at (renamed_before before) fields

-- the type with its parameters renamed
abbrev pub with_parameters : TypeTree → TypeTree
with_parameters = fold-TypeTree TypeTree parameters_step

-- ---- for private contracts

abbrev pub all_with_parameters : List TypeTree → List TypeTree
all_with_parameters trees = map with_parameters trees

abbrev pub fields_with_parameters : List (Spot × TypeTree) → List (Spot × TypeTree)
fields_with_parameters fields = map (λ field. (field.0, with_parameters field.1)) fields
