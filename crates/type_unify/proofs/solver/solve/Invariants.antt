use Rattle.type_terms.specs.Terms.{nodes_of, unlinked}
use Rattle.type_unify.proofs.Unifying.{Solving}
use Rattle.type_unify.proofs.solver.solve.Given as goal

abbrev pub invariant-steps : goal.invariant-steps
invariant-steps l = Solving l.fn.store l.store l.a l.b l.waiting

abbrev pub decreases-steps : goal.decreases-steps
decreases-steps l = unlinked (nodes_of l.store)
