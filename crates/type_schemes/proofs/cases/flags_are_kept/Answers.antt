use Rattle.type_schemes.proofs.Examples.{int_ordered, function_not_ordered}
use Rattle.type_schemes.proofs.cases.flags_are_kept.Goals as goal

pub returns-clause-order : goal.returns-clause-order
returns-clause-order c = int_ordered

pub returns-clause-none : goal.returns-clause-none
returns-clause-none c = function_not_ordered
