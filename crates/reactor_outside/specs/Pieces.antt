-- Bytes in pieces of given sizes: which piece a read hands out.
use Rattle.std.specs.Prelude.{◌≡◌, ℕ, zero, suc, ◌-◌, min, List, [], ◌∷◌, length, Option, Some, None}

-- The bytes still to come, and the sizes of the pieces in which they come, the next one first. Behind the last piece
-- bytes come as they are asked for.
pub record InPieces : Type 0 where
  pub left : List ℕ
  pub sizes : List ℕ

-- How many bytes may be handed out: what there is room for, of those that are left.
abbrev pub most_bytes : List ℕ → List ℕ → ℕ
most_bytes into left = min (length into) (length left)

-- How many bytes a read hands out that may give at most this many: the next piece, cut to these.
abbrev pub piece_size : List ℕ → ℕ → ℕ
piece_size [] most = most
piece_size (size ∷ later) most = min size most

-- A piece in front of the others, unless nothing is left of it.
abbrev pub with_rest : ℕ → List ℕ → List ℕ
with_rest zero later = later
with_rest (suc more) later = suc more ∷ later

-- The sizes of the pieces after that read: what is left of a piece that was cut is the next piece.
abbrev pub later_sizes : List ℕ → ℕ → List ℕ
later_sizes [] most = []
later_sizes (size ∷ later) most = with_rest (size - most) later

-- A read that may give at most this many bytes hands out n of them as the next piece, where the sizes are known.
abbrev pub HandsOut : Option (List ℕ) → ℕ → ℕ → Option (List ℕ) → Type 0
HandsOut None most n after = after ≡ None
HandsOut (Some sizes) most n after = (n ≡ piece_size sizes most) × (after ≡ Some (later_sizes sizes most))
