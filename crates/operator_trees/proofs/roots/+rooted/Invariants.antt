use Rattle.std.proofs.Common.{length}
use Rattle.operator_trees.proofs.roots.+rooted.Given as goal

abbrev pub decreases-rooted : goal.decreases-rooted
decreases-rooted l = length l.behind.now
