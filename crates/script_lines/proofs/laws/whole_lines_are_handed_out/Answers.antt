use Rattle.script_lines.proofs.Whole.{handed_out_is_whole}
use Rattle.script_lines.proofs.laws.whole_lines_are_handed_out.Goals as goal

pub returns : goal.returns
returns c = handed_out_is_whole
