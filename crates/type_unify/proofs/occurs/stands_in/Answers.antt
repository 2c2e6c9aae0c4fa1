use Rattle.type_unify.proofs.Standing.{found_here, looks_on, looks_lighter}
use Rattle.type_unify.proofs.occurs.stands_in.Goals as goal

pub returns-then-end-variable-clause-yes : goal.returns-then-end-variable-clause-yes
returns-then-end-variable-clause-yes c = λ e.
    found_here _ _ _ _ _ _ _ c.terms.invariant c.in-Some.ensures c.find-end.ensures.leads c.if-end-variable.true

pub terms-smaller : goal.terms-smaller
terms-smaller c = looks_lighter _ _ _ _ _ _ _ c.in-Some.ensures c.find-end.ensures.lighter c.shape_at.ensures c.in_ok-push_parts.ensures

pub terms-preserved : goal.terms-preserved
terms-preserved c = looks_on _ _ _ _ _ _ _ _ _ c.terms.invariant c.in-Some.ensures c.requires.variable c.find-end.ensures.leads c.if-end-variable.false
    c.shape_at.ensures c.in_ok-push_parts.ensures
