use Rattle.std.proofs.Common.{ℕ, ◌<◌, get_or}
use Rattle.module_groups.specs.Search.{WaitsForNoneBelow, IsPassedOver}
use Rattle.module_groups.proofs.search.next.Given as goal

abbrev pub invariant-loop-a : goal.invariant-loop-a
invariant-loop-a l = record {
  behind : (b : ℕ) → WaitsForNoneBelow l.reached l.taken b (get_or l.passed b 0);
  before : (b : ℕ) → b < l.a → IsPassedOver l.reached l.taken b;
}
