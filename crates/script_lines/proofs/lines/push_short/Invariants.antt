use Rattle.std.proofs.Common.{◌≡◌, ◌++◌, length}
use Rattle.script_lines.specs.Kept.{shortened_within}
use Rattle.script_lines.proofs.lines.push_short.Given as goal

-- what was appended, and what is to be of the rest, is what is to be of the piece
abbrev pub invariant-loop-line : goal.invariant-loop-line
invariant-loop-line l = l.out.items ++ shortened_within l.room l.piece ≡ l.fn.out.items ++ shortened_within l.fn.room l.fn.piece

abbrev pub decreases-loop-line : goal.decreases-loop-line
decreases-loop-line l = length l.piece
