use Rattle.std.proofs.Common.{◌∙◌}
use Rattle.script_lines.proofs.Numbers.{number_by_parse}
use Rattle.script_lines.proofs.commands.parsed.Goals as goal

pub returns : goal.returns
returns c = c.ok.ensures.value ∙ number_by_parse c.args.digits.now c.parse.result c.requires.all c.requires.some c.requires.few c.parse.ensures.value.0
