-- Definitions that are well typed.
use Rattle.std.specs.Prelude.{List, [], ◌∷◌}
use Rattle.elm_typing.specs.Ground.{Ground}
use Rattle.typing_rules.specs.CoreTypes.{CoreHas}
use Rattle.typing_rules.specs.Worlds.{no_surroundings}
use Rattle.typing_sound.specs.Settings.{Setting, world_of}
use Rattle.core_trees.specs.Reading.{core_of}
use Rattle.core_definitions.specs.declared.one.CoreDefinition.{CoreDefinition}

-- the right side has a type, where no local name is in scope
abbrev pub IsTyped : Setting → CoreDefinition → Type 0
IsTyped p definition = (type : Ground) × CoreHas (world_of p) no_surroundings (core_of definition.right.body) type

abbrev pub AllTyped : Setting → List CoreDefinition → Type 0
AllTyped p [] = Unit {0}
AllTyped p (d ∷ ds) = IsTyped p d × AllTyped p ds
