use Rattle.std.proofs.Common.{◌≡◌, length}
use Rattle.core_definitions.specs.Definitions as spec
use Rattle.core_definitions.proofs.finding.module_named.Given as goal

-- the first of what is left is the first of all
abbrev pub invariant-loop-left : goal.invariant-loop-left
invariant-loop-left l = spec.module_named l.home l.left ≡ spec.module_named l.home l.modules

abbrev pub decreases-loop-left : goal.decreases-loop-left
decreases-loop-left l = length l.left
