use Rattle.std.proofs.Common.{length}
use Rattle.operator_trees.proofs.levels.+standard.Given as goal

abbrev pub decreases-standard : goal.decreases-standard
decreases-standard l = length l.entries.now
