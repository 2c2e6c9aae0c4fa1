use Rattle.std.proofs.Common.{arith}
use Rattle.type_unify.proofs.PartLists.{zipped_step}
use Rattle.type_unify.proofs.parts.push_pairs.Goals as goal

pub loop-at-preserved : goal.loop-at-preserved
loop-at-preserved c =
    zipped_step _ c.loop-at.waiting _ _ _ c.loop-at.at _ _ (omega arith) c.requires c.loop-at.invariant c.part.ensures c.part-in-loop-at.ensures c.in_ok-push.ensures.ok
