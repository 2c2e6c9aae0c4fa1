use Rattle.std.proofs.Common.{◌≡◌, ◌++◌, ◌+◌, length}
use Rattle.elm_meaning.specs.ValueText.{text_of}
use Rattle.value_arena.specs.Unfolding.{Lambdas, unfolded}
use Rattle.value_text.specs.Counting.{completed, open_after}
use Rattle.value_text.specs.Pieces.{waiting, PiecesBelow}
use Rattle.value_text.specs.Sizes.{sizes}
use Rattle.value_text.proofs.Steps.{no_lambdas}
use Rattle.value_text.proofs.write.write.Given as goal

-- with the pieces that wait the text is that of the value
abbrev pub invariant-pieces : goal.invariant-pieces
invariant-pieces l =
    ((lambdas : Lambdas) → l.text.items ++ waiting lambdas l.arena l.pending.items ≡ text_of (unfolded lambdas l.arena l.at))
    × (l.budget.left + completed 0 l.text.items ≡ l.limit) × (l.budget.following ≡ open_after 0 l.text.items)
    × PiecesBelow (length l.arena) l.pending.items

abbrev pub decreases-pieces : goal.decreases-pieces
decreases-pieces l = sizes no_lambdas l.arena l.pending.items
