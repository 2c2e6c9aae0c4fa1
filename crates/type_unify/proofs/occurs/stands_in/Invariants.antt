use Rattle.type_terms.specs.Depth.{sum_of, weight}
use Rattle.type_terms.specs.Terms.{nodes_of}
use Rattle.type_unify.proofs.Standing.{Looks}
use Rattle.type_unify.proofs.occurs.stands_in.Given as goal

abbrev pub invariant-terms : goal.invariant-terms
invariant-terms l = Looks (nodes_of l.store) l.variable l.at l.waiting

abbrev pub decreases-terms : goal.decreases-terms
decreases-terms l = sum_of (weight l.store) l.waiting
