use Rattle.std.proofs.Common.{◌≡◌, ◌++◌, length}
use Rattle.block_groups.specs.Blocks as spec
use Rattle.block_groups.proofs.tops.push_tops.Given as goal

-- what is left is still to be appended
abbrev pub invariant-loop-left : goal.invariant-loop-left
invariant-loop-left l = l.out ++ spec.tops_of l.left ≡ l.fn.out ++ spec.tops_of l.declarations

abbrev pub decreases-loop-left : goal.decreases-loop-left
decreases-loop-left l = length l.left
