-- The lines of a text, char by char, with what was seen of the line at hand.
use Rattle.std.specs.Prelude.{ℕ, suc, ◌-◌, max, if◌then◌else◌, ◌==◌, List, [], ◌∷◌, ◌++◌, replicate, encode_utf8}
use Rattle.elm_meaning.specs.Layout.{shown}

-- the widest line of all, where the line at hand has so many chars and none so far has more than `most`
abbrev pub widest_from : ℕ → ℕ → List ℕ → ℕ
widest_from most here [] = most
widest_from most here (c ∷ cs) =
    if c == 10 then widest_from most 0 cs else widest_from (max most (suc here)) (suc here) cs

-- a row that has so many chars, filled with spaces
abbrev pub filled : ℕ → ℕ → List ℕ → List ℕ
filled width count row = row ++ replicate (width - count) 32

-- the rows of the lines, where the line at hand has so many chars and is shown as this row
abbrev pub rows_from : ℕ → ℕ → List ℕ → List ℕ → List (List ℕ)
rows_from width count row [] = filled width count row ∷ []
rows_from width count row (c ∷ cs) =
    if c == 10 then filled width count row ∷ rows_from width 0 [] cs
    else rows_from width (suc count) (row ++ encode_utf8 (shown c)) cs
