use Rattle.std.proofs.Common.{length}
use Rattle.port_literals.proofs.Turns.{Scans}
use Rattle.port_literals.proofs.scan.comma.Given as goal

abbrev pub invariant-loop-left : goal.invariant-loop-left
invariant-loop-left l = Scans l.text l.at l.left

abbrev pub decreases-loop-left : goal.decreases-loop-left
decreases-loop-left l = length l.left
