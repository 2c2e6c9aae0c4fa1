use Rattle.plain_form.specs.Numbering.{one}
use Rattle.core_names.proofs.Joining.{next}
use Rattle.core_names.proofs.walk.push_labels.Goals as goal

pub loop-label-preserved : goal.loop-label-preserved
loop-label-preserved c =
    next (λ label. one label.at) c.args.labels.now c.loop-label.label-index c.label-item.result _ _ _ c.loop-label-test.true c.label-item.is c.loop-label.invariant c.in_ok-push.ensures
