use Rattle.std.proofs.Common.{◌≡◌, ◌++◌, drop}
use Rattle.well_sorted.proofs.parts.push_all.Given as goal

abbrev pub invariant-loop-term : goal.invariant-loop-term
invariant-loop-term l = l.out ++ drop l.term-index l.terms ≡ l.fn.out ++ l.terms
