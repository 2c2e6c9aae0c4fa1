use Rattle.std.proofs.Common.{◌≡◌, ◌++◌, drop}
use Rattle.well_sorted.specs.Asking.{each_simple}
use Rattle.well_sorted.proofs.parts.note_all.Given as goal

abbrev pub invariant-loop-term : goal.invariant-loop-term
invariant-loop-term l = l.out ++ each_simple l.simple (drop l.term-index l.terms) ≡ l.fn.out ++ each_simple l.simple l.terms
