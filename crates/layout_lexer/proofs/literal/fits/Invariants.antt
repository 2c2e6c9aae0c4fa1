use Rattle.std.proofs.Common.{◌≡◌, ◌≤◌, length}
use Rattle.layout_lexer.specs.Pieces.{fits_from}
use Rattle.layout_lexer.proofs.literal.fits.Given as goal

abbrev pub invariant-loop-left : goal.invariant-loop-left
invariant-loop-left l = (fits_from l.value l.left ≡ fits_from 0 l.digits) × (l.value ≤ 9223372036854775807)

abbrev pub decreases-loop-left : goal.decreases-loop-left
decreases-loop-left l = length l.left
