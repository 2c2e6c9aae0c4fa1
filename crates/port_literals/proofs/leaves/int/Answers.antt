use Rattle.port_literals.proofs.Integers.{not_utf8_is_no_int}
use Rattle.port_literals.proofs.leaves.int.Goals as goal

pub returns-in-Err : goal.returns-in-Err
returns-in-Err c = not_utf8_is_no_int c.args.text.now c.in-Err.ensures.cases.0
