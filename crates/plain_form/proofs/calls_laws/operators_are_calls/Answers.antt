use Rattle.plain_form.proofs.Forms.{of_and, of_negate, of_operator, of_or}
use Rattle.plain_form.proofs.calls_laws.operators_are_calls.Goals as goal

pub returns-clause-both : goal.returns-clause-both
returns-clause-both c = λ n at operator x y h. of_and n at operator x y h

pub returns-clause-either : goal.returns-clause-either
returns-clause-either c = λ n at operator x y h. of_or n at operator x y h

pub returns-clause-operator : goal.returns-clause-operator
returns-clause-operator c = λ n at operator x y h k. of_operator n at operator x y h k

pub returns-clause-negate : goal.returns-clause-negate
returns-clause-negate c = λ n at x. of_negate n at x
