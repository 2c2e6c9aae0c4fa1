use Rattle.std.proofs.Common.{◌∙◌, ◌+◌, ap}
use Rattle.core_names.specs.Binding.{names_of}
use Rattle.core_parts.proofs.Further as further
use Rattle.core_parts.proofs.names.labelled.Goals as goal

pub loop-label-preserved : goal.loop-label-preserved
loop-label-preserved c =
    (c.in_ok-further.ensures ∙ ap (λ j. j + 1) c.loop-label.invariant.0, further.labelled_turn (names_of c.args.of.now) c.args.at c.loop-label.label-index c.loop-label.further c.in_ok-number.number c.args.labels.now c.in_ok-copy.field-0 c.label-item.result _ _ c.loop-label-test.true c.label-item.is c.in_ok-copy.ensures c.loop-label.invariant.0 c.in_ok-number.ensures c.in_ok-push.ensures.ok c.loop-label.invariant.1)

pub returns : goal.returns
returns c =
    further.labelled_whole (names_of c.args.of.now) c.args.at c.loop-label.label-index c.args.labels.now c.loop-label.made (further.take_all _ _ c.loop-label-test.false) c.loop-label.invariant.1
