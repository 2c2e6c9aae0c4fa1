use Rattle.type_terms.specs.Depth.{sum_of, weight}
use Rattle.type_terms.specs.Terms.{nodes_of}
use Rattle.type_unify.proofs.Asking.{Asks}
use Rattle.type_unify.proofs.flags.order_demands.Given as goal

abbrev pub invariant-terms : goal.invariant-terms
invariant-terms l = Asks (nodes_of l.store) l.at l.waiting l.found

abbrev pub decreases-terms : goal.decreases-terms
decreases-terms l = sum_of (weight l.store) l.waiting
