use Rattle.type_conditions.proofs.Growing.{made, each-pushed, each-kept}
use Rattle.type_conditions.proofs.conditions.Conditions.make.Goals as goal

pub invariant_of-self-in_err-push : goal.invariant_of-self-in_err-push
invariant_of-self-in_err-push c = each-kept c.self.inside.types c.make_type.new.self _ _ c.in_ok-at.ensures.keeps c.in_err-push.ensures.items c.self.invariant

pub invariant_of-self-2 : goal.invariant_of-self-2
invariant_of-self-2 c = each-pushed c.self.inside.types c.make_type.new.self _ _ _ c.in_ok-at.ensures.keeps c.in_ok-at.ensures.is_type c.in_ok-push.ensures.items c.self.invariant

pub returns-clause-adds : goal.returns-clause-adds
returns-clause-adds c =
    let sound = rw (← c.self.view_is) at c.stays_sound.ensures.sound in
    let notes = rw (← c.self.view_is) at c.stays_sound.ensures.notes in
    let inside = rw (← c.self.view_is) at c.requires.parts in
    rw (← c.self.view_is)
    (made _ _ _ _ _ _ sound notes c.self.invariant inside c.requires.no_rest c.in_ok-at.ensures.keeps c.in_ok-at.ensures.is_type
    c.in_ok-at.ensures.place c.in_ok-at.ensures.state c.in_ok-push.ensures.items)
