use Rattle.type_terms.specs.Depth.{sum_of, weight}
use Rattle.type_terms.specs.Terms.{nodes_of}
use Rattle.type_unify.specs.Matching.{terms_in}
use Rattle.type_unify.proofs.Visiting.{StillWaits}
use Rattle.type_unify.proofs.step.descend.Given as goal

abbrev pub invariant-pairs : goal.invariant-pairs
invariant-pairs l = StillWaits (nodes_of l.store) l.fn.waiting l.waiting

abbrev pub decreases-pairs : goal.decreases-pairs
decreases-pairs l = sum_of (weight l.store) (terms_in l.waiting)
