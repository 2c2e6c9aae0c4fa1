use Rattle.std.proofs.Common.{◌≡◌, ◌+◌, ◌<◌, length}
use Rattle.std.specs.Prelude.{◌⊎◌}
use Rattle.layout_lexer.specs.Pieces.{name_from, name_end}
use Rattle.layout_lexer.proofs.name.name_end.Given as goal

abbrev pub invariant-loop-left : goal.invariant-loop-left
invariant-loop-left l =
    (name_from l.is_upper l.len l.left ≡ name_end l.text) × (l.len + length l.left ≡ length l.text) × ((l.left ≡ l.text) ⊎ (0 < l.len))

abbrev pub decreases-loop-left : goal.decreases-loop-left
decreases-loop-left l = length l.left
