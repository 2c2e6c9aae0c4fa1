use Rattle.rules_tests.proofs.scene.newest.Goals as goal

pub returns-in-Ok : goal.returns-in-Ok
returns-in-Ok c = c.in-Ok.ensures.restricts.grows.types _ c.requires.first
