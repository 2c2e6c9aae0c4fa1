use Rattle.conditions_tests.proofs.Made.{added}
use Rattle.conditions_tests.proofs.scene.variable.Goals as goal

pub returns : goal.returns
returns c = added _ _ _ _ _ _ _ c.requires c.in_ok-at.ensures.adds c.in_ok-at.ensures.tails c.in_ok-push.ensures.ok
