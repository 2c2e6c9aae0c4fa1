use Rattle.std.proofs.Common.{◌≡◌, length}
use Rattle.core_definitions.specs.Definitions as spec
use Rattle.core_definitions.proofs.finding.declared_at.Given as goal

-- the first of what is left is the first of all
abbrev pub invariant-loop-left : goal.invariant-loop-left
invariant-loop-left l = spec.declared_at l.at l.left ≡ spec.declared_at l.at l.declarations

abbrev pub decreases-loop-left : goal.decreases-loop-left
decreases-loop-left l = length l.left
