use Rattle.std.proofs.Common.{sym, ◌∙◌}
use Rattle.elm_base.specs.declared.event.PortType.{out-PortType}
use Rattle.port_literals.proofs.Turns.{step_inside}
use Rattle.port_literals.proofs.value.unbracketed.Goals as goal

pub loop-left-preserved : goal.loop-left-preserved
loop-left-preserved c =
    c.loop-left.invariant
    ∙ step_inside (out-PortType c.args.port.now) c.loop-left.left c.loop-left.within.now c.in-Some.inside.now c.loop-left-test.true (sym c.in-Some.ensures)
