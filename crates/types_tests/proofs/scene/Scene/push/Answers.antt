use Rattle.types_tests.proofs.Made.{kept}
use Rattle.types_tests.proofs.scene.Scene.push.Goals as goal

pub invariant_of-self-2 : goal.invariant_of-self-2
invariant_of-self-2 c = kept c.self.inside.types _ _ _ c.self.invariant c.in_ok-made.ensures.keeps
