use Rattle.std.proofs.Common.{drop, ap, ◌∙◌}
use Rattle.port_literals.proofs.Turns.{name_dropped}
use Rattle.port_literals.proofs.forms.behind_name.Goals as goal

pub returns : goal.returns
returns c = c.from.ensures ∙ ap (λ n. drop n c.args.text.now) c.name_len.ensures.first ∙ name_dropped c.args.text.now
