use Rattle.std.proofs.Common.{◌≡◌, ◌+◌, length, false}
use Rattle.layout_lexer.specs.Pieces.{quoted_from}
use Rattle.layout_lexer.proofs.literal.quoted_end.Given as goal

abbrev pub invariant-loop-left : goal.invariant-loop-left
invariant-loop-left l =
    (quoted_from l.is_escaped l.end l.left ≡ quoted_from false 1 l.chars) × (l.end + length l.left ≡ length l.chars + 1)

abbrev pub decreases-loop-left : goal.decreases-loop-left
decreases-loop-left l = length l.left
