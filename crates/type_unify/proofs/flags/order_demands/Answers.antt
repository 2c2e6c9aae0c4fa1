use Rattle.std.proofs.Common.{◌≡◌, true, false, refl}
use Rattle.type_unify.proofs.Asking.{asks_variable, asks_parts, asks_refused}
use Rattle.type_unify.proofs.Standing.{looks_lighter, fewer_wait}
use Rattle.type_unify.proofs.Visiting.{weight_some}
use Rattle.type_unify.proofs.flags.order_demands.Goals as goal

pub terms-smaller-in-Continue-branch-2 : goal.terms-smaller-in-Continue-branch-2
terms-smaller-in-Continue-branch-2 c = fewer_wait c.args.store.now c.terms.waiting c.pop.new.self c.in-Some.term c.in-Some.ensures (weight_some c.args.store.now c.in-Some.term)

pub terms-preserved-in-Continue-branch-2 : goal.terms-preserved-in-Continue-branch-2
terms-preserved-in-Continue-branch-2 c = asks_variable _ _ _ _ _ _ _ _ _ c.terms.invariant c.in-Some.ensures c.find-end.ensures.leads c.find-end.ensures.inside
    c.shape_at-shape.ensures (c.if-is_variable.ensures.0 refl) c.in_ok-push-2.ensures.ok

pub returns-then-not-allows_order-clause-refused : goal.returns-then-not-allows_order-clause-refused
returns-then-not-allows_order-clause-refused c = λ why e.
    asks_refused _ _ _ _ _ _ _ _ c.terms.invariant c.in-Some.ensures c.find-end.ensures.leads c.find-end.ensures.inside c.shape_at-shape.ensures
    (λ h. let f : false ≡ true = c.if-is_variable.ensures.1 h in cc f)
    (λ h. let f : false ≡ true = c.if-not-allows_order.ensures.1 h in cc f)

pub terms-smaller : goal.terms-smaller
terms-smaller c = looks_lighter _ _ _ _ _ _ _ c.in-Some.ensures c.find-end.ensures.lighter c.shape_at-shape.ensures c.in_ok-push_parts.ensures

pub terms-preserved : goal.terms-preserved
terms-preserved c = asks_parts _ _ _ _ _ _ _ _ _ c.requires.apart c.terms.invariant c.in-Some.ensures c.find-end.ensures.leads c.find-end.ensures.inside
    c.shape_at-shape.ensures (λ h. let f : false ≡ true = c.if-is_variable.ensures.1 h in cc f)
    (c.if-not-allows_order.ensures.0 refl) c.in_ok-push_parts.ensures
