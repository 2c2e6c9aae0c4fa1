use Rattle.type_terms.specs.Terms.{nodes_of}
use Rattle.type_sorts.proofs.Marks.{MarkedBelow}
use Rattle.type_sorts.proofs.rests.rests.Given as goal

abbrev pub invariant-loop-at : goal.invariant-loop-at
invariant-loop-at l = MarkedBelow (nodes_of l.store) l.at l.marks.items
