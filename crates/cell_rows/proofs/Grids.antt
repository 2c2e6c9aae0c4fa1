-- Rectangles that have their rows, and what the code makes of them.
use Rattle.std.proofs.Common.{◌≡◌, ℕ, zero, suc, ◌-◌, ◌≤◌, Bool, true, false, ◌&&◌, leb, if◌then◌else◌, List, [], ◌∷◌, ◌++◌, length, map, refl, ap, ◌∙◌, arith, length-append}
use Rattle.std.specs.Str.{chars, encode_utf8_all, all_scalars}
use Rattle.std.proofs.lemmas.Bool.{le-leb}
use Rattle.std.proofs.lemmas.List.{append-nil, length-map, length-replicate}
use Rattle.std.proofs.lemmas.Str.{chars-encodes, scalars-chars, IsUtf8-from_is_utf8, is_utf8-from_IsUtf8}
use Rattle.elm_meaning.specs.Answers.{Answer, Gives}
use Rattle.elm_meaning.specs.Layout.{Grid, RowsHave, HasRows, element_of, laid_out, blanks, blank_rows, wide, no_cells, blank}
use Rattle.cell_rows.specs.declared.types.Cells.{Cells}
use Rattle.cell_rows.specs.Elements.{IsWhole, IsWithin, element, grid}
use Rattle.cell_rows.proofs.Codes.{blanks-scalars, scalars-append}

-- rows of so many chars
abbrev pub AreRows : ℕ → List (List ℕ) → Type 0
AreRows width [] = Unit {0}
AreRows width (row ∷ rows) = (all_scalars row ≡ true) × (length row ≡ width) × AreRows width rows

pub record IsGrid (g : Grid) : Type 0 where
  pub tall : length g.rows ≡ g.height
  pub wide : AreRows g.width g.rows

rows_have : (width : ℕ) (rows : List (List ℕ)) → AreRows width rows → RowsHave width (map encode_utf8_all rows)
rows_have width [] h = tt
rows_have width (r ∷ rs) h =
    (is_utf8-from_IsUtf8 _ (r, (h.0, refl)), ap length (chars-encodes r h.0) ∙ h.1, rows_have width rs h.2)

pub HasRows-encoded : (g : Grid) → IsGrid g → HasRows g.width g.height (map encode_utf8_all g.rows)
HasRows-encoded g i = (length-map g.rows encode_utf8_all ∙ i.tall, rows_have g.width g.rows i.wide)

are_rows : (width : ℕ) (rows : List (List ℕ)) → RowsHave width rows → AreRows width (map chars rows)
are_rows width [] h = tt
are_rows width (r ∷ rs) h = (scalars-chars r (IsUtf8-from_is_utf8 r h.0), h.1, are_rows width rs h.2)

pub IsGrid-whole : (c : Cells) → IsWhole c → IsGrid (grid c)
IsGrid-whole c w = record { tall = length-map c.rows chars ∙ w.0; wide = are_rows c.width c.rows w.1 }

pub AreRows-append : (width : ℕ) (a b : List (List ℕ)) → AreRows width a → AreRows width b → AreRows width (a ++ b)
AreRows-append width [] b h k = k
AreRows-append width (r ∷ rs) b h k = (h.0, h.1, AreRows-append width rs b h.2 k)

pub AreRows-blank : (n width : ℕ) → AreRows width (blank_rows n width)
AreRows-blank zero width = tt
AreRows-blank (suc n) width = (blanks-scalars width, length-replicate width 32, AreRows-blank n width)

-- a row filled to a width that it doesn't pass
pub length-wide : (width : ℕ) (row : List ℕ) → length row ≤ width → length (wide width row) ≡ width
length-wide width row h =
    let l = length-append row (blanks (width - length row)) in
    let b = length-replicate {A = ℕ} (width - length row) 32 in
    omega (arith, l, b)

pub scalars-wide : (width : ℕ) (row : List ℕ) → all_scalars row ≡ true → all_scalars (wide width row) ≡ true
scalars-wide width row h = scalars-append row (blanks (width - length row)) h (blanks-scalars (width - length row))

pub AreRows-wide : (w width : ℕ) (rows : List (List ℕ)) → w ≤ width → AreRows w rows → AreRows width (map (wide width) rows)
AreRows-wide w width [] h k = tt
AreRows-wide w width (r ∷ rs) h k =
    (scalars-wide width r k.0, length-wide width r (omega (arith, k.1)), AreRows-wide w width rs h k.2)

-- a row that is as wide already stays
wide_whole : (width : ℕ) (row : List ℕ) → length row ≡ width → wide width row ≡ row
wide_whole width row h =
    let none : width - length row ≡ 0 = omega arith in rw none (append-nil row)

pub encodes-wide : (width : ℕ) (rows : List (List ℕ)) → AreRows width rows → map encode_utf8_all rows ≡ map (λ r. encode_utf8_all (wide width r)) rows
encodes-wide width [] h = refl
encodes-wide width (r ∷ rs) h =
    let first = ap encode_utf8_all (wide_whole width r h.1) in let rest = encodes-wide width rs h.2 in cc

pub IsGrid-none : IsGrid no_cells
IsGrid-none = record { tall = refl; wide = tt }

pub IsGrid-blank : (w h : ℕ) → IsGrid (blank w h)
IsGrid-blank w h = record { tall = length-replicate h (blanks w); wide = AreRows-blank h w }

where_within : (a b : Bool) (x y : Answer) → a ≡ true → b ≡ true → (if a && b then x else y) ≡ x
where_within true true x y h k = refl
where_within true false x y h k = absurd (cc)
where_within false b x y h k = absurd (cc)

pub laid_out-within : (g : Grid) → IsWithin g → laid_out g ≡ Gives (element_of g)
laid_out-within g i = where_within (leb g.width 1000) (leb g.height 1000) _ _ (le-leb _ _ i.0) (le-leb _ _ i.1)

-- cells with the measures and the rows of a rectangle that is within the limit
pub lays_out : (g : Grid) (c : Cells) → IsGrid g → IsWithin g → c.width ≡ g.width → c.height ≡ g.height → c.rows ≡ map encode_utf8_all g.rows
    → (laid_out g ≡ Gives (element c)) × IsWhole c
lays_out g c i w p q r =
    let same : element_of g ≡ element c = cc in (laid_out-within g w ∙ ap Gives same, rw (p, q, r) (HasRows-encoded g i))
