use Rattle.std.proofs.Common.{take, ap, ◌∙◌}
use Rattle.port_literals.proofs.Turns.{name_taken}
use Rattle.port_literals.proofs.forms.name_of.Goals as goal

pub returns : goal.returns
returns c = ap (λ n. take n c.args.text.now) c.name_len.ensures.first ∙ name_taken c.args.text.now
