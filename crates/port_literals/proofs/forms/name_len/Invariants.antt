use Rattle.std.proofs.Common.{length}
use Rattle.port_literals.proofs.Turns.{Names}
use Rattle.port_literals.proofs.forms.name_len.Given as goal

abbrev pub invariant-loop-left : goal.invariant-loop-left
invariant-loop-left l = Names l.text l.left

abbrev pub decreases-loop-left : goal.decreases-loop-left
decreases-loop-left l = length l.left
