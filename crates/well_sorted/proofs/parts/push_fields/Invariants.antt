use Rattle.std.proofs.Common.{◌≡◌, ◌++◌, drop}
use Rattle.type_terms.specs.Terms.{terms_of}
use Rattle.well_sorted.proofs.parts.push_fields.Given as goal

abbrev pub invariant-loop-term : goal.invariant-loop-term
invariant-loop-term l = l.out ++ terms_of (drop l.term-index l.fields) ≡ l.fn.out ++ terms_of l.fields
