use Rattle.std.proofs.Common.{sym}
use Rattle.reactor_engine.proofs.Integers.{not_utf8_is_none}
use Rattle.reactor_engine.proofs.literal.integer_of.Goals as goal

pub returns-in-Err : goal.returns-in-Err
returns-in-Err c = sym (not_utf8_is_none c.args.text.now c.in-Err.ensures.cases.0)
