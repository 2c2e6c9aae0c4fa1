use Rattle.std.proofs.Common.{◌≡◌, ◌+◌, ◌≤◌, length}
use Rattle.layout_lexer.specs.Pieces.{comment_from, comment_len}
use Rattle.layout_lexer.proofs.blank.comment_len.Given as goal

abbrev pub invariant-loop-left : goal.invariant-loop-left
invariant-loop-left l =
    (comment_from l.depth l.is_second l.len l.left ≡ comment_len l.text) × (l.len + length l.left ≡ length l.text) × (l.depth ≤ l.len)

abbrev pub decreases-loop-left : goal.decreases-loop-left
decreases-loop-left l = length l.left
