use Rattle.type_terms.specs.Depth.{sum_of, weight}
use Rattle.type_terms.specs.Terms.{nodes_of}
use Rattle.well_sorted.proofs.Waiting.{Waits}
use Rattle.well_sorted.proofs.asking.sort_notes.Given as goal

abbrev pub invariant-terms : goal.invariant-terms
invariant-terms l = Waits (nodes_of l.store) l.simple l.terms l.waiting l.notes

abbrev pub decreases-terms : goal.decreases-terms
decreases-terms l = sum_of (weight l.store) l.waiting
