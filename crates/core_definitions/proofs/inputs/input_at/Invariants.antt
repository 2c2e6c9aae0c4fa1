use Rattle.std.proofs.Common.{◌≡◌, ◌+◌, length}
use Rattle.core_definitions.specs.Inputs as spec
use Rattle.core_definitions.proofs.inputs.input_at.Given as goal

abbrev pub invariant-loop-left : goal.invariant-loop-left
invariant-loop-left l = l.number + spec.input_at l.home l.at l.left ≡ spec.input_at l.home l.at l.inputs

abbrev pub decreases-loop-left : goal.decreases-loop-left
decreases-loop-left l = length l.left
