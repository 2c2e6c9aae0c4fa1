use Rattle.type_conditions.proofs.Growing.{row-made, each-pushed, each-kept}
use Rattle.type_conditions.proofs.conditions.Conditions.make_row.Goals as goal

pub invariant_of-self-in_err-push : goal.invariant_of-self-in_err-push
invariant_of-self-in_err-push c = each-kept c.self.inside.types c.make_row.new.self _ _ c.in_ok-at.ensures.keeps c.in_err-push.ensures.items c.self.invariant

pub invariant_of-self-2 : goal.invariant_of-self-2
invariant_of-self-2 c = each-pushed c.self.inside.types c.make_row.new.self _ _ _ c.in_ok-at.ensures.keeps c.in_ok-at.ensures.is_type c.in_ok-push.ensures.items c.self.invariant

pub returns-clause-adds : goal.returns-clause-adds
returns-clause-adds c =
    let sound = rw (← c.self.view_is) at c.stays_sound.ensures.sound in
    let notes = rw (← c.self.view_is) at c.stays_sound.ensures.notes in
    let inside = rw (← c.self.view_is) at c.requires.types in
    let tail = rw (← c.self.view_is) at c.requires.tail in
    rw (← c.self.view_is)
    (row-made _ _ _ _ _ _ _ sound notes c.self.invariant inside tail c.in_ok-at.ensures.keeps c.in_ok-at.ensures.is_type
    c.in_ok-at.ensures.place c.in_ok-at.ensures.state c.in_ok-push.ensures.items)
