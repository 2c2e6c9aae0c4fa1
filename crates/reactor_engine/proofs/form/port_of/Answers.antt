use Rattle.std.proofs.Common.{◌∙◌, Some, None}
use Rattle.reactor_engine.proofs.Forms.{eighth}
use Rattle.reactor_engine.proofs.form.port_of.Goals as goal

pub returns-in-None : goal.returns-in-None
returns-in-None c = eighth c.args.tokens.now None c.in-None.ensures

pub returns-in-Some : goal.returns-in-Some
returns-in-Some c = c.port_at.ensures ∙ eighth c.args.tokens.now (Some c.in-Some.port.now) c.in-Some.ensures
