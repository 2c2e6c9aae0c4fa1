use Rattle.std.proofs.Common.{◌≡◌, length}
use Rattle.layout_lexer.specs.Places.{steps}
use Rattle.layout_lexer.proofs.place.place_from.Given as goal

abbrev pub invariant-loop-left : goal.invariant-loop-left
invariant-loop-left l = steps l.at l.left ≡ steps l.fn.at l.bytes

abbrev pub decreases-loop-left : goal.decreases-loop-left
decreases-loop-left l = length l.left
