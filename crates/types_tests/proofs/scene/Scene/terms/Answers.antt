use Rattle.types_tests.proofs.Made.{each_pushed}
use Rattle.types_tests.proofs.scene.Scene.terms.Goals as goal

pub loop-place-preserved : goal.loop-place-preserved
loop-place-preserved c = each_pushed _ _ _ _ c.loop-place.invariant c.in_ok-term.ensures c.in_ok-push.ensures.ok
