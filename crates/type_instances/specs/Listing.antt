-- The uses in lists of trees.
use Rattle.std.specs.Prelude.{Option, Some, None, List, [], ◌∷◌, true}
use Rattle.std.specs.List.{flat_map}
use Rattle.elm_base.specs.declared.tree.Spot.{Spot}
use Rattle.elm_base.specs.declared.tree.TypeTree.{TypeTree}
use Rattle.type_sense.specs.WrittenOf.{written_of}
use Rattle.type_instances.specs.declared.uses.Use.{Use}
use Rattle.type_instances.specs.Uses.{use_of, uses}

abbrev pub uses_in_trees : List TypeTree → List Use
uses_in_trees trees = flat_map (λ tree. uses (written_of tree)) trees

abbrev pub uses_of_fields : List (Spot × TypeTree) → List Use
uses_of_fields fields = flat_map (λ field. uses (written_of field.1)) fields

-- the use before a bar
abbrev pub before_uses : Option Spot → List Use
before_uses None = []
before_uses (Some spot) = use_of true spot.name ∷ []
