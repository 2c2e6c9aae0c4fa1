use Rattle.std.proofs.Common.{◌≡◌, length}
use Rattle.port_texts.specs.Given as spec
use Rattle.port_texts.proofs.given.are_labels.Given as goal

-- those that are left decide
abbrev pub invariant-loop-left : goal.invariant-loop-left
invariant-loop-left l = spec.are_labels l.fields ≡ spec.are_labels l.left

abbrev pub decreases-loop-left : goal.decreases-loop-left
decreases-loop-left l = length l.left
