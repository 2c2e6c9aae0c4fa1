use Rattle.core_trees.proofs.Standing.{told_of_call, told_of_let}
use Rattle.core_trees.proofs.functions.+is_function.Goals as goal

pub returns-else-is_empty : goal.returns-else-is_empty
returns-else-is_empty t c = told_of_call _ _ _ _ c.in-Call.is c.is_empty.ensures c.if-is_empty.false

pub returns-else-is_empty-2 : goal.returns-else-is_empty-2
returns-else-is_empty-2 t c = told_of_let _ _ _ _ c.in-Let.is c.is_empty-in-Let.ensures c.if-is_empty-2.false
