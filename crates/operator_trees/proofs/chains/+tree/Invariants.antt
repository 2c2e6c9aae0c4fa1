use Rattle.std.proofs.Common.{length}
use Rattle.operator_trees.proofs.chains.+tree.Given as goal

abbrev pub decreases-tree : goal.decreases-tree
decreases-tree l = length l.operators.now
