use Rattle.std.proofs.Common.{◌≡◌, ◌++◌, drop}
use Rattle.type_terms.specs.Terms.{terms_of}
use Rattle.well_sorted.specs.Asking.{each_simple}
use Rattle.well_sorted.proofs.parts.note_fields.Given as goal

abbrev pub invariant-loop-term : goal.invariant-loop-term
invariant-loop-term l =
    l.out ++ each_simple l.simple (terms_of (drop l.term-index l.fields)) ≡ l.fn.out ++ each_simple l.simple (terms_of l.fields)
