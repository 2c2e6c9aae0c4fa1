use Rattle.module_groups.specs.Search.{WaitsForNoneBelow}
use Rattle.module_groups.proofs.search.is_free.Given as goal

-- it waits for nothing below the number that is looked at
abbrev pub invariant-loop-c : goal.invariant-loop-c
invariant-loop-c l = WaitsForNoneBelow l.reached l.taken l.a l.c
