use Rattle.std.proofs.Common.{length}
use Rattle.operator_trees.proofs.levels.+found.Given as goal

abbrev pub decreases-found : goal.decreases-found
decreases-found l = length l.entries.now
