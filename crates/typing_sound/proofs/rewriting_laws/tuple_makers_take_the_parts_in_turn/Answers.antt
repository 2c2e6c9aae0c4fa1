use Rattle.typing_sound.specs.Settings.{world_of, types_in}
use Rattle.typing_sound.proofs.Makers.{tuple_has, tuple_only}
use Rattle.typing_sound.proofs.rewriting_laws.tuple_makers_take_the_parts_in_turn.Goals as goal

pub returns-clause-has : goal.returns-clause-has
returns-clause-has c = λ p scope n at parts d i. tuple_has (world_of p) n at d parts (types_in (world_of p) scope) i

pub returns-clause-only : goal.returns-clause-only
returns-clause-only c = λ p scope n at count t d h. tuple_only (world_of p) n at d count t (types_in (world_of p) scope) h
