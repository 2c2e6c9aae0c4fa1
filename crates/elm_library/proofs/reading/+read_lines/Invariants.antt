use Rattle.std.proofs.Common.{length}
use Rattle.elm_library.proofs.reading.+read_lines.Given as goal

abbrev pub decreases-read_lines : goal.decreases-read_lines
decreases-read_lines c = length c.tokens.now
