use Rattle.types_tests.proofs.Made.{more_tails}
use Rattle.types_tests.proofs.scene.Scene.keep_rest.Goals as goal

pub invariant_of-self-2 : goal.invariant_of-self-2
invariant_of-self-2 c =
    let tail = rw (← c.self.view_is) at c.requires in
    more_tails c.self.inside.types _ c.self.inside.rests _ c.args.tail c.self.invariant tail c.in_ok-push.ensures.ok
