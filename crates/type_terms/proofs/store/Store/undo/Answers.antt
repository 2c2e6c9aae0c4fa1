use Rattle.std.proofs.Common.{◌∙◌, arith}
use Rattle.type_terms.proofs.Histories.{back-step}
use Rattle.type_terms.proofs.store.Store.undo.Goals as goal

pub loop-mark-preserved : goal.loop-mark-preserved
loop-mark-preserved c =
    let step =
    back-step c.loop-mark.self c.take_back.new.self c.args.mark c.take_back.ensures (omega (arith, c.mark.view_is, c.loop-mark-test.true, c.changes.ensures.count)) in
    record { enough = step.0; back = step.1 ∙ c.loop-mark.invariant.back }
