use Rattle.std.proofs.Common.{◌∙◌}
use Rattle.port_literals.proofs.Integers.{int_by_parse}
use Rattle.port_literals.proofs.leaves.parsed.Goals as goal

pub returns : goal.returns
returns c = c.ok.ensures.value ∙ int_by_parse c.args.text.now c.parse.result c.requires c.parse.ensures.value.0
