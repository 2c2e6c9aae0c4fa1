use Rattle.conditions_tests.proofs.Made.{opened}
use Rattle.conditions_tests.proofs.scene.rest.Goals as goal

pub returns : goal.returns
returns c = opened _ _ _ _ _ c.requires c.in_ok-scene.ensures
