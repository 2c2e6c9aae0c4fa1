use Rattle.std.proofs.Common.{sym}
use Rattle.script_lines.proofs.Ends.{without_return_return, without_return_none}
use Rattle.script_lines.proofs.line.without_return.Goals as goal

pub returns-in-Some : goal.returns-in-Some
returns-in-Some c = sym (without_return_return c.args.bytes.now c.in-Some.front.now c.in-Some.ensures.last)

pub returns-in-None : goal.returns-in-None
returns-in-None c = sym (without_return_none c.args.bytes.now c.in-None.ensures.other)
