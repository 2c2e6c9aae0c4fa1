use Rattle.std.proofs.Common.{◌≡◌, ◌++◌, take}
use Rattle.decl_faults.proofs.ports.push_copies.Given as goal

abbrev pub invariant-loop-flaw : goal.invariant-loop-flaw
invariant-loop-flaw l = l.out ≡ l.fn.out ++ take l.flaw-index l.flaws
