use Rattle.std.proofs.Common.{ℕ, IsTrue, ◌↔◌, ◌⊎◌, take}
use Rattle.std.specs.List.{Contains}
use Rattle.module_groups.specs.Search.{is_taken}
use Rattle.module_groups.proofs.block.take.Given as goal

abbrev pub invariant-loop-member : goal.invariant-loop-member
invariant-loop-member l = (a : ℕ) → IsTrue (is_taken l.taken a) ↔ (IsTrue (is_taken l.initial.taken a) ⊎ Contains (take l.member-index l.members) a)
