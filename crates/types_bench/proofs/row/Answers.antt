use Rattle.type_unify.proofs.Building.{field_pushed}
use Rattle.types_bench.proofs.row.Goals as goal

pub loop-number-preserved : goal.loop-number-preserved
loop-number-preserved c = field_pushed _ _ _ _ _ c.loop-number.invariant c.requires c.in_ok-push.ensures.ok
