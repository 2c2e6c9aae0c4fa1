use Rattle.script_lines.proofs.Whole.{joined_lines}
use Rattle.script_lines.proofs.laws.lines_join.Goals as goal

pub returns : goal.returns
returns c = joined_lines
