use Rattle.core_trees.proofs.Standing.{of_call, of_lambda, of_let, of_list}
use Rattle.core_trees.proofs.laws.parts_stand_in_turn.Goals as goal

pub returns-clause-call : goal.returns-clause-call
returns-clause-call _ = of_call

pub returns-clause-lambda : goal.returns-clause-lambda
returns-clause-lambda _ = of_lambda

pub returns-clause-groups : goal.returns-clause-groups
returns-clause-groups _ = of_let

pub returns-clause-elements : goal.returns-clause-elements
returns-clause-elements _ = of_list
