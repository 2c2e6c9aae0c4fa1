-- The lines of a text by the line at hand.
use Rattle.std.proofs.Common.{◌≡◌, ℕ, suc, ◌+◌, ◌-◌, ◌≤◌, max, Bool, true, false, eqb, ltb, ◌||◌, if◌then◌else◌, List, [], ◌∷◌, ◌++◌, length, map, replicate, refl, sym, ap, ◌∙◌, arith, append_assoc}
use Rattle.std.specs.Char.{encode_utf8}
use Rattle.std.specs.Str.{encode_utf8_all, all_scalars}
use Rattle.std.proofs.lemmas.List.{append-nil, length-map, map-append, length_push}
use Rattle.std.proofs.lemmas.Str.{encodes-append}
use Rattle.elm_meaning.specs.Layout.{lines_of, onto_first, shown, widest, wide, blanks, text_grid}
use Rattle.cell_rows.specs.Lines.{filled, rows_from, widest_from}
use Rattle.cell_rows.proofs.Codes.{encodes-blanks, encodes-one, map-map, scalars-parts, scalars-cons}
use Rattle.cell_rows.proofs.Grids.{AreRows, IsGrid, length-wide, scalars-wide}

-- the lines where the first one begins with these chars
abbrev front : List ℕ → List (List ℕ) → List (List ℕ)
front r [] = r ∷ []
front r (l ∷ ls) = (r ++ l) ∷ ls

front-more : (r : List ℕ) (c : ℕ) (lines : List (List ℕ)) → front r (onto_first c lines) ≡ front (r ++ c ∷ []) lines
front-more r c [] = refl
front-more r c (l ∷ ls) = ap (λ (x : List ℕ). x ∷ ls) (sym (append_assoc r (c ∷ []) l))

front-onto : (c : ℕ) (lines : List (List ℕ)) → front [] (onto_first c lines) ≡ onto_first c lines
front-onto c [] = refl
front-onto c (l ∷ ls) = refl

front_turn : (t : Bool) (c : ℕ) (lines : List (List ℕ)) → front [] (if t then [] ∷ lines else onto_first c lines) ≡ (if t then [] ∷ lines else onto_first c lines)
front_turn true c lines = refl
front_turn false c lines = front-onto c lines

front-none : (cs : List ℕ) → front [] (lines_of cs) ≡ lines_of cs
front-none [] = refl
front-none (c ∷ cs) = front_turn (eqb c 10) c (lines_of cs)

-- a line's row
abbrev row_of : ℕ → List ℕ → List ℕ
row_of width line = encode_utf8_all (wide width (map shown line))

filled_row : (width : ℕ) (line : List ℕ) → filled width (length line) (encode_utf8_all (map shown line)) ≡ row_of width line
filled_row width line =
    let shorter : width - length (map shown line) ≡ width - length line = ap (λ (n : ℕ). width - n) (length-map line shown) in
    let spaces : encode_utf8_all (blanks (width - length (map shown line))) ≡ replicate (width - length line) 32 =
    encodes-blanks (width - length (map shown line)) ∙ ap (λ (n : ℕ). replicate n 32) shorter in
    sym (encodes-append (map shown line) (blanks (width - length (map shown line))) ∙ ap (λ (r : List ℕ). encode_utf8_all (map shown line) ++ r) spaces)

rows_turn : (t : Bool) (width : ℕ) (r : List ℕ) (c : ℕ) (cs : List ℕ)
    → rows_from width 0 [] cs ≡ map (row_of width) (lines_of cs)
    → rows_from width (suc (length r)) (encode_utf8_all (map shown r) ++ encode_utf8 (shown c)) cs ≡ map (row_of width) (front (r ++ c ∷ []) (lines_of cs))
    → (if t then filled width (length r) (encode_utf8_all (map shown r)) ∷ rows_from width 0 [] cs
    else rows_from width (suc (length r)) (encode_utf8_all (map shown r) ++ encode_utf8 (shown c)) cs)
    ≡ map (row_of width) (front r (if t then [] ∷ lines_of cs else onto_first c (lines_of cs)))
rows_turn true width r c cs h k =
    let first : filled width (length r) (encode_utf8_all (map shown r)) ≡ row_of width (r ++ []) = filled_row width r ∙ ap (row_of width) (sym (append-nil r)) in cc
rows_turn false width r c cs h k = k ∙ ap (map (row_of width)) (sym (front-more r c (lines_of cs)))

pub rows_from_lines : (width : ℕ) (r cs : List ℕ) → rows_from width (length r) (encode_utf8_all (map shown r)) cs ≡ map (row_of width) (front r (lines_of cs))
rows_from_lines width r [] =
    let first : filled width (length r) (encode_utf8_all (map shown r)) ≡ row_of width (r ++ []) = filled_row width r ∙ ap (row_of width) (sym (append-nil r)) in cc
rows_from_lines width r (c ∷ cs) =
    let more : length (r ++ c ∷ []) ≡ suc (length r) = omega (arith, length_push r c) in
    let bytes : encode_utf8_all (map shown (r ++ c ∷ [])) ≡ encode_utf8_all (map shown r) ++ encode_utf8 (shown c) =
    ap encode_utf8_all (map-append shown r (c ∷ [])) ∙ encodes-append (map shown r) (shown c ∷ []) ∙ ap (λ (x : List ℕ). encode_utf8_all (map shown r) ++ x) (encodes-one (shown c)) in
    let next = rows_from_lines width (r ++ c ∷ []) cs in
    rows_turn (eqb c 10) width r c cs
    (rows_from_lines width [] cs ∙ ap (map (row_of width)) (front-none cs))
    (ap (λ (n : ℕ). rows_from width n (encode_utf8_all (map shown r) ++ encode_utf8 (shown c)) cs) (sym more)
    ∙ ap (λ (b : List ℕ). rows_from width (length (r ++ c ∷ [])) b cs) (sym bytes) ∙ next)

pub rows_are_lines : (width : ℕ) (cs : List ℕ) → rows_from width 0 [] cs ≡ map (row_of width) (lines_of cs)
rows_are_lines width cs = rows_from_lines width [] cs ∙ ap (map (row_of width)) (front-none cs)

-- ---- the widest line

-- the widest line where the first one begins with so many chars
abbrev most_of : ℕ → List (List ℕ) → ℕ
most_of h [] = h
most_of h (l ∷ ls) = max (h + length l) (widest ls)

most_of-zero : (lines : List (List ℕ)) → most_of 0 lines ≡ widest lines
most_of-zero [] = refl
most_of-zero (l ∷ ls) = omega arith

most_of-onto : (h c : ℕ) (lines : List (List ℕ)) → most_of h (onto_first c lines) ≡ most_of (suc h) lines
most_of-onto h c [] = omega arith
most_of-onto h c (l ∷ ls) = omega arith

most_of-least : (h : ℕ) (lines : List (List ℕ)) → h ≤ most_of h lines
most_of-least h [] = omega arith
most_of-least h (l ∷ ls) = omega arith

widest_turn : (t : Bool) (m h c : ℕ) (cs : List ℕ) → h ≤ m
    → widest_from m 0 cs ≡ max m (most_of 0 (lines_of cs))
    → widest_from (max m (suc h)) (suc h) cs ≡ max (max m (suc h)) (most_of (suc h) (lines_of cs))
    → (if t then widest_from m 0 cs else widest_from (max m (suc h)) (suc h) cs) ≡ max m (most_of h (if t then [] ∷ lines_of cs else onto_first c (lines_of cs)))
widest_turn true m h c cs l p q = omega (arith, p, most_of-zero (lines_of cs))
widest_turn false m h c cs l p q = omega (arith, q, most_of-onto h c (lines_of cs), most_of-least (suc h) (lines_of cs))

widest_from_lines : (m h : ℕ) (cs : List ℕ) → h ≤ m → widest_from m h cs ≡ max m (most_of h (lines_of cs))
widest_from_lines m h [] l = omega arith
widest_from_lines m h (c ∷ cs) l =
    widest_turn (eqb c 10) m h c cs l (widest_from_lines m 0 cs (omega arith)) (widest_from_lines (max m (suc h)) (suc h) cs (omega arith))

pub widest_is : (cs : List ℕ) → widest_from 0 0 cs ≡ widest (lines_of cs)
widest_is cs = omega (arith, widest_from_lines 0 0 cs (omega arith), most_of-zero (lines_of cs))

-- ---- the rectangle of a text has its rows

abbrev AreScalars : List (List ℕ) → Type 0
AreScalars [] = Unit {0}
AreScalars (l ∷ ls) = (all_scalars l ≡ true) × AreScalars ls

scalars_onto : (c : ℕ) (lines : List (List ℕ)) → all_scalars (c ∷ []) ≡ true → AreScalars lines → AreScalars (onto_first c lines)
scalars_onto c [] h k = (h, tt)
scalars_onto c (l ∷ ls) h k = (scalars-cons c l h k.0, k.1)

scalars_turn : (t : Bool) (c : ℕ) (lines : List (List ℕ)) → all_scalars (c ∷ []) ≡ true → AreScalars lines → AreScalars (if t then [] ∷ lines else onto_first c lines)
scalars_turn true c lines h k = (refl, k)
scalars_turn false c lines h k = scalars_onto c lines h k

lines_scalars : (cs : List ℕ) → all_scalars cs ≡ true → AreScalars (lines_of cs)
lines_scalars [] h = (refl, tt)
lines_scalars (c ∷ cs) h =
    let p = scalars-parts c cs h in scalars_turn (eqb c 10) c (lines_of cs) p.0 (lines_scalars cs p.1)

shown_turn : (t : Bool) (c : ℕ) → all_scalars (c ∷ []) ≡ true → all_scalars ((if t then 63 else c) ∷ []) ≡ true
shown_turn true c h = refl
shown_turn false c h = h

scalars-shown : (line : List ℕ) → all_scalars line ≡ true → all_scalars (map shown line) ≡ true
scalars-shown [] h = refl
scalars-shown (c ∷ cs) h =
    let p = scalars-parts c cs h in
    scalars-cons (shown c) (map shown cs) (shown_turn (ltb c 32 || eqb c 127) c p.0) (scalars-shown cs p.1)

rows_wide : (width : ℕ) (lines : List (List ℕ)) → AreScalars lines → widest lines ≤ width → AreRows width (map (λ line. wide width (map shown line)) lines)
rows_wide width [] h k = tt
rows_wide width (l ∷ ls) h k = (
  scalars-wide width (map shown l) (scalars-shown l h.0),
  length-wide width (map shown l) (omega (arith, length-map l shown)),
  rows_wide width ls h.1 (omega arith),
)

pub IsGrid-text : (cs : List ℕ) → all_scalars cs ≡ true → IsGrid (text_grid cs)
IsGrid-text cs h = record {
  tall = length-map (lines_of cs) (λ line. wide (widest (lines_of cs)) (map shown line));
  wide = rows_wide (widest (lines_of cs)) (lines_of cs) (lines_scalars cs h) (omega arith);
}

-- the code's rows are those of the text's rectangle
pub text_rows : (codes same : List ℕ) (width : ℕ) → same ≡ codes → width ≡ widest (lines_of codes) → rows_from width 0 [] same ≡ map encode_utf8_all (text_grid codes).rows
text_rows codes same width e w =
    ap (rows_from width 0 []) e ∙ ap (λ (n : ℕ). rows_from n 0 [] codes) w ∙ rows_are_lines (widest (lines_of codes)) codes
    ∙ sym (map-map encode_utf8_all (λ line. wide (widest (lines_of codes)) (map shown line)) (lines_of codes))
