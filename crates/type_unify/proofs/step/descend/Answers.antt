use Rattle.type_unify.proofs.Visiting.{pops_types, taken_type, waits_lighter, goes_on, stops_at}
use Rattle.type_unify.proofs.step.descend.Goals as goal

pub find-a-requires : goal.find-a-requires
find-a-requires c = (pops_types _ _ _ _ _ c.pairs.invariant c.in-Some.ensures).0.0

pub find-b-requires : goal.find-b-requires
find-b-requires c = (pops_types _ _ _ _ _ c.pairs.invariant c.in-Some.ensures).1.0

pub visit-requires-clause-first : goal.visit-requires-clause-first
visit-requires-clause-first c =
    taken_type _ _ _ (pops_types _ _ _ _ _ c.pairs.invariant c.in-Some.ensures).0 c.find-a.ensures.leads c.find-a.ensures.inside

pub visit-requires-clause-second : goal.visit-requires-clause-second
visit-requires-clause-second c =
    taken_type _ _ _ (pops_types _ _ _ _ _ c.pairs.invariant c.in-Some.ensures).1 c.find-b.ensures.leads c.find-b.ensures.inside

pub pairs-smaller : goal.pairs-smaller
pairs-smaller c = waits_lighter _ _ _ _ c.in-Some.pair _ _ _ c.in-Some.ensures
    (record { first = c.find-a.ensures.leads; second = c.find-b.ensures.leads; first_lighter = c.find-a.ensures.lighter; second_lighter = c.find-b.ensures.lighter })
    c.in_ok-step.ensures

pub pairs-preserved : goal.pairs-preserved
pairs-preserved c = goes_on _ _ _ _ _ c.in-Some.pair _ _ _ c.pairs.invariant c.in-Some.ensures
    (record { first = c.find-a.ensures.leads; second = c.find-b.ensures.leads; first_lighter = c.find-a.ensures.lighter; second_lighter = c.find-b.ensures.lighter })
    c.in_ok-step.ensures c.in-Done.is

pub returns-in_default-2 : goal.returns-in_default-2
returns-in_default-2 c = stops_at _ _ _ _ _ c.in-Some.pair _ _ _ c.pairs.invariant c.in-Some.ensures
    (record { first = c.find-a.ensures.leads; second = c.find-b.ensures.leads; first_lighter = c.find-a.ensures.lighter; second_lighter = c.find-b.ensures.lighter })
    c.in_ok-step.ensures c.in_default-2.not-Done
