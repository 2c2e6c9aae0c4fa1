-- A module's tokens, declaration by declaration.
use Rattle.std.specs.Prelude.{nat_lt, if◌then◌else◌, List, [], ◌∷◌}
use Rattle.elm_base.specs.Lexemes.{Lexeme}

-- The token before these chunks. It belongs to the first of them where that begins to the right of column 1.
abbrev pub with_token : Lexeme → List (List Lexeme) → List (List Lexeme)
with_token t [] = (t ∷ []) ∷ []
with_token t ([] ∷ rest) = (t ∷ []) ∷ rest
with_token t ((u ∷ us) ∷ rest) = if nat_lt 1 u.at.column then (t ∷ u ∷ us) ∷ rest else (t ∷ []) ∷ (u ∷ us) ∷ rest

-- each token that doesn't stand to the right of column 1 begins a chunk, and so does the first
abbrev pub chunks : List Lexeme → List (List Lexeme)
chunks [] = []
chunks (t ∷ ts) = with_token t (chunks ts)
