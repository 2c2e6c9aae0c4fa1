use Rattle.std.proofs.Common.{refl}
use Rattle.type_conditions.proofs.Fixing.{fixed}
use Rattle.type_conditions.proofs.Growing.{each-kept}
use Rattle.type_conditions.proofs.conditions.Conditions.make_rigid_rest.Goals as goal

pub returns : goal.returns
returns c =
    let sound = rw (← c.self.view_is) at c.stays_sound.ensures.sound in
    let notes = rw (← c.self.view_is) at c.stays_sound.ensures.notes in
    rw (← c.self.view_is)
    (fixed _ _ _ _ _ sound notes c.self.invariant c.in_ok-tail.ensures.keeps c.in_ok-tail.ensures.tail c.in_ok-tail.ensures.place c.in_ok-tail.ensures.state)

pub invariant_of-self-2 : goal.invariant_of-self-2
invariant_of-self-2 c = each-kept c.self.inside.types c.make_rigid_rest.new.self _ _ c.in_ok-tail.ensures.keeps refl c.self.invariant
