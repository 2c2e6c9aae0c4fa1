use Rattle.conditions_tests.proofs.Made.{noted}
use Rattle.conditions_tests.proofs.scene.at_most.Goals as goal

pub returns : goal.returns
returns c = noted _ _ _ _ _ c.requires c.in_ok-at_most.ensures.restricts
