use Rattle.std.proofs.Common.{◌≡◌, ◌++◌, length}
use Rattle.decl_faults.specs.Ports as spec
use Rattle.decl_faults.proofs.ports.inbound.Given as goal

-- what is left is still to be appended
abbrev pub invariant-loop-left : goal.invariant-loop-left
invariant-loop-left l = l.ports ++ spec.inbound l.left ≡ spec.inbound l.declarations

abbrev pub decreases-loop-left : goal.decreases-loop-left
decreases-loop-left l = length l.left
