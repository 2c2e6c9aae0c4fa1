use Rattle.port_literals.proofs.Turns.{behind_ends}
use Rattle.port_literals.proofs.forms.behind.Goals as goal

pub returns-in_default : goal.returns-in_default
returns-in_default c = behind_ends c.args.start.now c.loop-byte.left.now c.loop-byte.byte-index c.loop-byte-test.true c.in_default.len_below c.loop-byte.invariant
