-- Steps of loops, and rows read by number.
use Rattle.std.proofs.Common.{Vec, Result, Ok, Err, IfOk, ◌≡◌, ℕ, zero, suc, ◌+◌, ◌<◌, ◌≤◌, max, ℤ, pos, negsuc, Bool, true, false, eqb, ltb, if◌then◌else◌, Some, None, List, [], ◌∷◌, ◌++◌, length, get_or, map, take, drop, refl, sym, ap, ◌∙◌, subst, arith, append_assoc, add-one}
use Rattle.std.specs.List.{flat_map, slice_get}
use Rattle.std.specs.Str.{chars, is_utf8}
use Rattle.std.proofs.lemmas.Bool.{lt-ltb}
use Rattle.std.proofs.lemmas.List.{append-nil, at_drop_more, at_drop_all}
use Rattle.elm_meaning.specs.Layout.{RowsHave, lines_of, onto_first, row_at}
use Rattle.cell_rows.specs.declared.types.Cells.{Cells}
use Rattle.cell_rows.specs.Flows.{row_of}
use Rattle.cell_rows.specs.Frames.{inner_place}
use Rattle.cell_rows.specs.Lines.{widest_from}

pub flat_map-taken : {X A : Type 0} (f : X → List A) (xs : List X) (i : ℕ) (x : X) → slice_get xs i ≡ Some x → flat_map f (take (suc i) xs) ≡ flat_map f (take i xs) ++ f x
flat_map-taken f [] i x h = absurd (cc)
flat_map-taken f (y ∷ ys) zero x h = append-nil (f y) ∙ ap f (cc)
flat_map-taken f (y ∷ ys) (suc i) x h =
    ap (λ r. f y ++ r) (flat_map-taken f ys i x h) ∙ sym (append_assoc (f y) (flat_map f (take i ys)) (f x))

pub taken : {X A : Type 0} (f : X → List A) (xs : List X) (i : ℕ) (x : X) (before after : List A) → before ≡ flat_map f (take i xs) → slice_get xs i ≡ Some x → after ≡ before ++ f x → after ≡ flat_map f (take (i + 1) xs)
taken f xs i x before after p h q =
    rw add-one (q ∙ ap (λ r. r ++ f x) p ∙ sym (flat_map-taken f xs i x h))

none_there : (rows : List (List ℕ)) (y : ℕ) → None ≡ slice_get rows y → get_or rows y [] ≡ []
none_there [] y h = refl
none_there (r ∷ rs) zero h = absurd (cc)
none_there (r ∷ rs) (suc y) h = none_there rs y h

row_turn : (t : Bool) (a b : List ℕ) → t ≡ true → (if t then a else b) ≡ a
row_turn true a b h = refl
row_turn false a b h = absurd (cc)

pub no_row : (c : Cells) (y : ℕ) (out : List ℕ) → y < c.height → None ≡ slice_get c.rows y → out ≡ out ++ row_of y c
no_row c y out h k =
    sym (ap (λ (r : List ℕ). out ++ r) (row_turn (ltb y c.height) _ _ (lt-ltb y c.height h) ∙ none_there c.rows y k) ∙ append-nil out)

-- ---- a row of texts

pub utf8_row : (width : ℕ) (rows : List (List ℕ)) (n : ℕ) (row : List ℕ) → RowsHave width rows → slice_get rows n ≡ Some row → is_utf8 row ≡ true
utf8_row width [] n row h k = absurd (cc)
utf8_row width (r ∷ rs) zero row h k = let e : r ≡ row = cc in subst (λ x. is_utf8 x ≡ true) e h.0
utf8_row width (r ∷ rs) (suc n) row h k = utf8_row width rs n row h.2 k

row_of_chars : (rows : List (List ℕ)) (n : ℕ) (row : List ℕ) → slice_get rows n ≡ Some row → row_at (pos n) (map chars rows) ≡ chars row
row_of_chars [] n row k = absurd (cc)
row_of_chars (r ∷ rs) zero row k = ap chars (cc)
row_of_chars (r ∷ rs) (suc n) row k = row_of_chars rs n row k

no_chars : (rows : List (List ℕ)) (n : ℕ) → None ≡ slice_get rows n → row_at (pos n) (map chars rows) ≡ []
no_chars [] n k = refl
no_chars (r ∷ rs) zero k = absurd (cc)
no_chars (r ∷ rs) (suc n) k = no_chars rs n k

pub codes_there : (rows : List (List ℕ)) (place : ℤ) (n : ℕ) (row : List ℕ) → Some n ≡ inner_place place → slice_get rows n ≡ Some row → row_at place (map chars rows) ≡ chars row
codes_there rows (negsuc m) n row e k = absurd (cc)
codes_there rows (pos m) n row e k = row_of_chars rows m row (let q : m ≡ n = cc in rw q k)

pub no_codes_there : (rows : List (List ℕ)) (place : ℤ) (n : ℕ) → Some n ≡ inner_place place → None ≡ slice_get rows n → row_at place (map chars rows) ≡ []
no_codes_there rows (negsuc m) n e k = absurd (cc)
no_codes_there rows (pos m) n e k = no_chars rows m (let q : m ≡ n = cc in rw q k)

-- ---- the lines of a text, one char on

onto_twice : (c d : ℕ) (lines : List (List ℕ)) → length (onto_first c (onto_first d lines)) ≡ length (onto_first d lines)
onto_twice c d [] = refl
onto_twice c d (l ∷ ls) = refl

onto_turn : (t : Bool) (c d : ℕ) (lines : List (List ℕ)) → length (onto_first c (if t then [] ∷ lines else onto_first d lines)) ≡ length (if t then [] ∷ lines else onto_first d lines)
onto_turn true c d lines = refl
onto_turn false c d lines = onto_twice c d lines

onto_length : (c : ℕ) (cs : List ℕ) → length (onto_first c (lines_of cs)) ≡ length (lines_of cs)
onto_length c [] = refl
onto_length c (d ∷ ds) = onto_turn (eqb d 10) c d (lines_of ds)

-- a newline, and another char
line_turn : (t : Bool) (m h c : ℕ) (cs : List ℕ) → t ≡ true
    → ((if t then widest_from m 0 cs else widest_from (max m (suc h)) (suc h) cs) ≡ widest_from m 0 cs)
    × (length (if t then [] ∷ lines_of cs else onto_first c (lines_of cs)) ≡ suc (length (lines_of cs)))
line_turn true m h c cs e = (refl, refl)
line_turn false m h c cs e = absurd (cc)

char_turn : (t : Bool) (m h c : ℕ) (cs : List ℕ) → t ≡ false
    → ((if t then widest_from m 0 cs else widest_from (max m (suc h)) (suc h) cs) ≡ widest_from (max m (suc h)) (suc h) cs)
    × (length (if t then [] ∷ lines_of cs else onto_first c (lines_of cs)) ≡ length (lines_of cs))
char_turn true m h c cs e = absurd (cc)
char_turn false m h c cs e = (refl, onto_length c cs)

abbrev IsSize : ℕ → ℕ → ℕ → ℕ → List ℕ → Type 0
IsSize width height here i codes =
    (widest_from width here (drop i codes) ≡ widest_from 0 0 codes)
    × (height + length (lines_of (drop i codes)) ≡ length (lines_of codes) + 1) × (here ≤ i) × (height ≤ i + 1)

pub after_newline : (m height h i c : ℕ) (codes : List ℕ) → i < length codes → c ≡ get_or codes i c → eqb c 10 ≡ true → IsSize m height h i codes
    → IsSize m (height + 1) 0 (i + 1) codes
after_newline m height h i c codes l e t (w, n, p, q) =
    let rest = drop (i + 1) codes in
    let step : drop i codes ≡ c ∷ rest = at_drop_more (λ x. x) codes i c l ∙ ap (λ (x : ℕ). x ∷ rest) (sym e) in
    let turn = line_turn (eqb c 10) m h c rest t in (
      sym turn.0 ∙ sym (ap (widest_from m h) step) ∙ w,
      omega (arith, n, turn.1, ap (λ (x : List ℕ). length (lines_of x)) step),
      omega arith,
      omega arith,
    )

pub after_char : (m height h i c : ℕ) (codes : List ℕ) → i < length codes → c ≡ get_or codes i c → eqb c 10 ≡ false → IsSize m height h i codes
    → IsSize (max m (h + 1)) height (h + 1) (i + 1) codes
after_char m height h i c codes l e t (w, n, p, q) =
    let rest = drop (i + 1) codes in
    let step : drop i codes ≡ c ∷ rest = at_drop_more (λ x. x) codes i c l ∙ ap (λ (x : ℕ). x ∷ rest) (sym e) in
    let turn = char_turn (eqb c 10) m h c rest t in (
      rw add-one (sym turn.0 ∙ sym (ap (widest_from m h) step) ∙ w),
      omega (arith, n, turn.1, ap (λ (x : List ℕ). length (lines_of x)) step),
      omega arith,
      omega arith,
    )

pub at_the_end : (m height h i : ℕ) (codes : List ℕ) → length codes ≤ i → IsSize m height h i codes → m ≡ widest_from 0 0 codes
at_the_end m height h i codes l s = sym (at_drop_all (widest_from m h) codes i l) ∙ s.0

pub if_codes_there : {Z E : Type 0} (rows : List (List ℕ)) (place : ℤ) (n : ℕ) (row text : List ℕ) (result : Result (Vec ℕ Z) E) → Some n ≡ inner_place place → slice_get rows n ≡ Some row → text ≡ row
    → IfOk result (λ codes. codes.items ≡ chars text) → IfOk result (λ codes. codes.items ≡ row_at place (map chars rows))
if_codes_there rows place n row text (Ok codes) e k s h = h ∙ ap chars s ∙ sym (codes_there rows place n row e k)
if_codes_there rows place n row text (Err x) e k s h = tt
