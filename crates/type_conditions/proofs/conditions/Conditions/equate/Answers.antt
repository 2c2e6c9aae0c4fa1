use Rattle.type_conditions.proofs.Growing.{equated, on_ok, types-kept}
use Rattle.type_conditions.proofs.conditions.Conditions.equate.Goals as goal

pub invariant_of-self : goal.invariant_of-self
invariant_of-self c = types-kept c.unify.result _ _ _ _ _ c.unify.ensures.unified c.unify.ensures.unchanged c.self.invariant

pub returns-clause-restricts : goal.returns-clause-restricts
returns-clause-restricts c =
    let notes = rw (← c.self.view_is) at c.stays_sound.ensures.notes in
    rw (← c.self.view_is) (on_ok _ _ _ (equated _ _ _ _ _ notes c.self.invariant c.unify.ensures.grown) c.unify.ensures.unified)
