use Rattle.block_groups.proofs.Growing.{grows_next}
use Rattle.block_groups.proofs.whole.push_all_inner.Goals as goal

pub loop-step-preserved : goal.loop-step-preserved
loop-step-preserved c =
    grows_next c.args.«module».now c.args.uses.now c.args.steps.now c.loop-step.step-index c.step-item.result c.args.found.now c.loop-step.found
    c.push_inner.new.found c.loop-step-test.true c.step-item.is c.loop-step.invariant c.in_ok-push_inner.ensures
