use Rattle.script_lines.proofs.Ends.{no_position}
use Rattle.script_lines.proofs.commands.word_len.Goals as goal

pub returns-in-None : goal.returns-in-None
returns-in-None c = no_position c.args.text.now c.in-None.ensures
