-- Texts without the spaces at an end. Only the space counts, and no other white space.
use Rattle.std.specs.Prelude.{ℕ, ◌==◌, if◌then◌else◌, List, [], ◌∷◌, reverse}

-- a text without the spaces before it
abbrev pub trim_start : List ℕ → List ℕ
trim_start [] = []
trim_start (byte ∷ rest) = if byte == 32 then trim_start rest else byte ∷ rest

-- a text without the spaces after it
abbrev pub trim_end : List ℕ → List ℕ
trim_end text = reverse (trim_start (reverse text))
