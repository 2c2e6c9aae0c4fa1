-- Lines of words.
use Rattle.std.specs.Prelude.{ℕ, List, [], ◌∷◌, ◌++◌}
use Rattle.std.specs.List.{flat_map}

-- a text and its newline
abbrev pub line : List ℕ → List ℕ
line text = text ++ 10 ∷ []

-- a word behind another, with a space between
abbrev pub spaced : List ℕ → List ℕ
spaced word = 32 ∷ word

-- words with single spaces between them
abbrev pub words : List (List ℕ) → List ℕ
words [] = []
words (first ∷ others) = first ++ flat_map spaced others
