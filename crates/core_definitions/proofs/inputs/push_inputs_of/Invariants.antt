use Rattle.std.proofs.Common.{◌≡◌, ◌++◌, length}
use Rattle.core_definitions.specs.Inputs as spec
use Rattle.core_definitions.proofs.inputs.push_inputs_of.Given as goal

-- what was appended, and what is left, are all
abbrev pub invariant-loop-left : goal.invariant-loop-left
invariant-loop-left l = l.out ++ spec.inputs_from l.home l.left ≡ l.fn.out ++ spec.inputs_from l.home l.declarations

abbrev pub decreases-loop-left : goal.decreases-loop-left
decreases-loop-left l = length l.left
