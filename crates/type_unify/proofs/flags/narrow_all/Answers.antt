use Rattle.type_unify.proofs.Narrowing.{narrowing_first, narrowing_variable, narrowing_more, narrowing_done, grown_same}
use Rattle.type_unify.proofs.flags.narrow_all.Goals as goal

pub demands-init : goal.demands-init
demands-init c = narrowing_first _ _ _ _ c.in_ok-found.ensures.found

pub narrow-requires-clause-inside : goal.narrow-requires-clause-inside
narrow-requires-clause-inside c = (narrowing_variable _ _ _ _ _ _ _ c.demands.invariant c.in-Some.ensures).0

pub narrow-requires-clause-variable : goal.narrow-requires-clause-variable
narrow-requires-clause-variable c = (narrowing_variable _ _ _ _ _ _ _ c.demands.invariant c.in-Some.ensures).1

pub demands-preserved : goal.demands-preserved
demands-preserved c = narrowing_more _ _ _ _ _ _ _ _ c.demands.invariant c.in-Some.ensures c.in_ok-narrow.ensures.state c.in_ok-narrow.ensures.solutions

pub returns-in_err-narrow-clause-grown : goal.returns-in_err-narrow-clause-grown
returns-in_err-narrow-clause-grown c = grown_same _ _ _ c.demands.invariant.grown c.in_err-narrow.ensures.refused

pub returns-clause-grown : goal.returns-clause-grown
returns-clause-grown c = c.demands.invariant.grown

pub returns-clause-narrowed : goal.returns-clause-narrowed
returns-clause-narrowed c = narrowing_done _ _ _ _ _ c.demands.invariant c.in_default.ensures.0
