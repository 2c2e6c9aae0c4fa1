use Rattle.type_conditions.proofs.Growing.{opened, each-kept}
use Rattle.std.proofs.Common.{refl}
use Rattle.type_conditions.proofs.conditions.Conditions.make_rest.Goals as goal

pub returns : goal.returns
returns c =
    let sound = rw (← c.self.view_is) at c.stays_sound.ensures.sound in
    let notes = rw (← c.self.view_is) at c.stays_sound.ensures.notes in
    let grown = rw c.store.ensures.store at c.stays_sound-2.ensures in
    rw (← c.self.view_is)
    (opened _ _ _ _ sound grown notes c.self.invariant c.in_ok-tail.ensures.keeps c.in_ok-tail.ensures.tail c.in_ok-tail.ensures.place c.in_ok-tail.ensures.state)

pub invariant_of-self-2 : goal.invariant_of-self-2
invariant_of-self-2 c = each-kept c.self.inside.types c.make_rest.new.self _ _ c.in_ok-tail.ensures.keeps refl c.self.invariant
