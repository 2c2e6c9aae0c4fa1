use Rattle.std.proofs.Common.{◌≡◌, length}
use Rattle.session_file.specs.Sessions as spec
use Rattle.session_file.proofs.order.are_different.Given as goal

-- those that are left decide
abbrev pub invariant-loop-left : goal.invariant-loop-left
invariant-loop-left l = spec.are_different l.inputs ≡ spec.are_different l.left

abbrev pub decreases-loop-left : goal.decreases-loop-left
decreases-loop-left l = length l.left
