use Rattle.typing_sound.specs.Settings.{world_of, types_in}
use Rattle.typing_sound.proofs.Sources.{and_types, or_types, operator_types, negate_types}
use Rattle.typing_sound.proofs.source_laws.operators_have_the_types_of_calls.Goals as goal

pub returns-clause-both : goal.returns-clause-both
returns-clause-both c = λ p scope n at operator x y h. and_types p (types_in (world_of p) scope) n at operator x y h

pub returns-clause-either : goal.returns-clause-either
returns-clause-either c = λ p scope n at operator x y h. or_types p (types_in (world_of p) scope) n at operator x y h

pub returns-clause-operator : goal.returns-clause-operator
returns-clause-operator c = λ p scope n at operator x y h k. operator_types p (types_in (world_of p) scope) n at operator x y h k

pub returns-clause-negate : goal.returns-clause-negate
returns-clause-negate c = λ p scope n at x. negate_types p (types_in (world_of p) scope) n at x
