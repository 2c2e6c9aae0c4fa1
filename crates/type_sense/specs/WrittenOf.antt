-- The written type that a tree without aliases is.
use Rattle.std.specs.Prelude.{ℕ, Option, Some, None, List, [], ◌∷◌}
use Rattle.elm_base.specs.declared.tree.Spot.{Spot}
use Rattle.elm_base.specs.declared.tree.TypeTree.{TypeTree}
use Rattle.elm_base.specs.declared.tree.TypeTree.TheOpen as type
use Rattle.elm_base.specs.declared.tree.TypeTree.TheFolds.{fold-TypeTree}
use Rattle.typing_rules.specs.WrittenTypes.{Written, WrittenFields, NoWrittens, NoWrittenFields, AndWrittenField}
use Rattle.typing_rules.specs.WrittenTypes as w
use Rattle.typing_rules.specs.Library.{writtens}

abbrev pub name_before : Option Spot → Option (List ℕ)
name_before None = None
name_before (Some spot) = Some spot.name

abbrev pub written_fields : List (Spot × Written) → WrittenFields
written_fields [] = NoWrittenFields
written_fields (field ∷ fields) = AndWrittenField field.0.name field.1 (written_fields fields)

abbrev pub written_step : type.TypeTree-F Written → Written
written_step (type.Variable at name) = w.Variable name
written_step (type.Named at name arguments) = w.Named name (writtens arguments)
written_step (type.Arrow at from to) = w.Arrow from to
written_step (type.Unit at) = w.Tuple NoWrittens
written_step (type.Tuple at parts) = w.Tuple (writtens parts)
written_step (type.Brackets at inner) = inner
written_step (type.Fields at before fields) = w.Fields (name_before before) (written_fields fields)

-- places and brackets aside
abbrev pub written_of : TypeTree → Written
written_of = fold-TypeTree Written written_step
