use Rattle.std.proofs.Common.{◌≡◌, length}
use Rattle.top_names.specs.Names as spec
use Rattle.top_names.proofs.values.name_in.Given as goal

-- the first of what is left is the first of all
abbrev pub invariant-loop-left : goal.invariant-loop-left
invariant-loop-left l = spec.name_in l.left l.home l.at ≡ spec.name_in l.modules l.home l.at

abbrev pub decreases-loop-left : goal.decreases-loop-left
decreases-loop-left l = length l.left
