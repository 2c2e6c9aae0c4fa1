use Rattle.std.proofs.Common.{◌∙◌}
use Rattle.reactor_engine.proofs.Integers.{integer_by_parse}
use Rattle.reactor_engine.proofs.literal.parsed.Goals as goal

pub returns : goal.returns
returns c = c.ok.ensures.value ∙ integer_by_parse c.args.text.now c.parse.result c.requires c.parse.ensures.value.0
