use Rattle.std.proofs.Common.{ℕ, get_or}
use Rattle.module_groups.specs.Groups.{References}
use Rattle.module_groups.specs.Search.{SaysWhatReaches, WaitsForNoneBelow}
use Rattle.module_groups.proofs.Marks.{left_of}
use Rattle.module_groups.proofs.Rounds.{IsInOrder}
use Rattle.module_groups.proofs.block.find_all.Given as goal

-- what was found so far are the first groups, whatever follows them
abbrev pub invariant-loop-first : goal.invariant-loop-first
invariant-loop-first l = record {
  behind : (a : ℕ) → WaitsForNoneBelow l.reached l.taken a (get_or l.passed a 0);
  order : (refers : References) → SaysWhatReaches refers l.reached → IsInOrder l.reached.bits refers l.taken l.found;
}

abbrev pub decreases-loop-first : goal.decreases-loop-first
decreases-loop-first l = left_of l.reached.bits l.taken
