use Rattle.script_lines.proofs.Shortening.{says_the_same}
use Rattle.script_lines.proofs.laws.kept_bytes_say_the_same.Goals as goal

pub returns : goal.returns
returns c = says_the_same
