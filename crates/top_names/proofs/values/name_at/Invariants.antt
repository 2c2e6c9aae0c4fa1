use Rattle.std.proofs.Common.{◌≡◌, length}
use Rattle.top_names.specs.Names as spec
use Rattle.top_names.proofs.values.name_at.Given as goal

-- the first of what is left is the first of all
abbrev pub invariant-loop-left : goal.invariant-loop-left
invariant-loop-left l = spec.name_at l.at l.left ≡ spec.name_at l.at l.declarations

abbrev pub decreases-loop-left : goal.decreases-loop-left
decreases-loop-left l = length l.left
