use Rattle.conditions_tests.specs.Scenes.{AreMade}
use Rattle.conditions_tests.proofs.scene.take_all.Given as goal

abbrev pub invariant-loop-step : goal.invariant-loop-step
invariant-loop-step l = AreMade l.scene.conditions l.scene.made l.scene.tail
