use Rattle.typing_sound.specs.Settings.{world_of, types_in}
use Rattle.typing_sound.proofs.Makers.{alias_has, alias_only}
use Rattle.typing_sound.proofs.rewriting_laws.alias_makers_have_the_instances_of_their_types.Goals as goal

pub returns-clause-has : goal.returns-clause-has
returns-clause-has c = λ p scope n at m fields t d g i h. alias_has (world_of p) n at d m fields t (types_in (world_of p) scope) g i h

pub returns-clause-only : goal.returns-clause-only
returns-clause-only c = λ p scope n at m fields t d g h. alias_only (world_of p) n at d m fields t (types_in (world_of p) scope) g h
