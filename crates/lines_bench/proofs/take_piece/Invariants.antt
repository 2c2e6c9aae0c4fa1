use Rattle.std.proofs.Common.{length}
use Rattle.lines_bench.proofs.take_piece.Given as goal

-- a line that is handed out is left no more
abbrev pub decreases-loop-line : goal.decreases-loop-line
decreases-loop-line l = length l.lines
