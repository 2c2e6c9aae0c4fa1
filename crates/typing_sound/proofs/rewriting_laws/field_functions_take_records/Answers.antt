use Rattle.typing_rules.specs.Worlds.{no_surroundings}
use Rattle.typing_sound.specs.Settings.{world_of}
use Rattle.typing_sound.proofs.Rewritten.{field_has, field_only}
use Rattle.typing_sound.proofs.rewriting_laws.field_functions_take_records.Goals as goal

pub returns-clause-has : goal.returns-clause-has
returns-clause-has c = λ p label row t i e. field_has (world_of p) no_surroundings label row t i e

pub returns-clause-only : goal.returns-clause-only
returns-clause-only c = λ p label t h. field_only (world_of p) no_surroundings label t h
