use Rattle.type_unify.proofs.Building.{field_pushed}
use Rattle.conditions_tests.proofs.scene.fields.Goals as goal

pub loop-label-preserved : goal.loop-label-preserved
loop-label-preserved c = field_pushed _ _ _ _ _ c.loop-label.invariant c.in_ok-term.ensures c.in_ok-push.ensures.ok
