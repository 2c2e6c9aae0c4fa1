-- Items under each other.
use Rattle.std.proofs.Common.{◌≡◌, ℕ, ◌+◌, ◌-◌, ◌≤◌, max, List, [], ◌∷◌, ◌++◌, length, map, reverse, replicate, refl, sym, ap, ◌∙◌, arith, append_assoc, length-append}
use Rattle.std.specs.Str.{chars, encode_utf8_all}
use Rattle.std.proofs.lemmas.List.{length-map, length-replicate, map-append, replicate-append-replicate, reverse-append}
use Rattle.std.proofs.lemmas.Str.{encodes-append, encodes-chars, IsUtf8-from_is_utf8}
use Rattle.elm_meaning.specs.Layout.{Grid, RowsHave, blanks, wide, above, all_above}
use Rattle.cell_rows.specs.declared.types.Cells.{Cells}
use Rattle.cell_rows.specs.declared.flows.Measure.{Measure}
use Rattle.cell_rows.specs.declared.flows.Measure.TheVariants.{Width, Height}
use Rattle.cell_rows.specs.Elements.{AreWhole, grid}
use Rattle.cell_rows.specs.Flows.{total, most, rows_within, rows_above}
use Rattle.cell_rows.proofs.Codes.{encodes-blanks}
use Rattle.cell_rows.proofs.Grids.{IsGrid, IsGrid-none, IsGrid-whole, AreRows-append, AreRows-wide, encodes-wide}

pub above_width : (items : List Cells) → (all_above (map grid items)).width ≡ most Width items
above_width [] = refl
above_width (c ∷ cs) = ap (max c.width) (above_width cs)

pub above_height : (items : List Cells) → (all_above (map grid items)).height ≡ total Height items
above_height [] = refl
above_height (c ∷ cs) = ap (λ (n : ℕ). c.height + n) (above_height cs)

IsGrid-above : (a b : Grid) → IsGrid a → IsGrid b → IsGrid (above a b)
IsGrid-above a b i j = record {
  tall = length-map (a.rows ++ b.rows) (wide (max a.width b.width)) ∙ length-append a.rows b.rows ∙ omega (arith, i.tall, j.tall);
  wide =
      rw map-append
      (AreRows-append (max a.width b.width) (map (wide (max a.width b.width)) a.rows) (map (wide (max a.width b.width)) b.rows)
      (AreRows-wide a.width (max a.width b.width) a.rows (omega arith) i.wide)
      (AreRows-wide b.width (max a.width b.width) b.rows (omega arith) j.wide));
}

pub IsGrid-all_above : (items : List Cells) → AreWhole items → IsGrid (all_above (map grid items))
IsGrid-all_above [] h = IsGrid-none
IsGrid-all_above (c ∷ cs) h =
    IsGrid-above (grid c) (all_above (map grid cs)) (IsGrid-whole c h.0) (IsGrid-all_above cs h.1)

-- ---- rows that are filled twice

wide-wide : (v w : ℕ) (r : List ℕ) → w ≤ v → wide v (wide w r) ≡ wide v r
wide-wide v w r h =
    let long : length (wide w r) ≡ length r + (w - length r) =
    length-append r (blanks (w - length r)) ∙ ap (λ (n : ℕ). length r + n) (length-replicate (w - length r) 32) in
    let spaces : blanks (w - length r) ++ blanks (v - length (wide w r)) ≡ blanks (v - length r) =
    replicate-append-replicate (w - length r) (v - length (wide w r)) 32
    ∙ ap blanks (let n : (w - length r) + (v - length (wide w r)) ≡ v - length r = omega (arith, long) in n) in
    append_assoc r (blanks (w - length r)) (blanks (v - length (wide w r))) ∙ ap (λ (x : List ℕ). r ++ x) spaces

rows_twice : (v w : ℕ) (rows : List (List ℕ)) → w ≤ v → map (λ r. encode_utf8_all (wide v r)) (map (wide w) rows) ≡ map (λ r. encode_utf8_all (wide v r)) rows
rows_twice v w [] h = refl
rows_twice v w (r ∷ rs) h =
    let first = ap encode_utf8_all (wide-wide v w r h) in let rest = rows_twice v w rs h in cc

rows_filled : (v w : ℕ) (rows : List (List ℕ)) → RowsHave w rows → map (λ r. encode_utf8_all (wide v r)) (map chars rows) ≡ map (λ row. row ++ replicate (v - w) 32) rows
rows_filled v w [] h = refl
rows_filled v w (r ∷ rs) h =
    let spaces : encode_utf8_all (blanks (v - length (chars r))) ≡ replicate (v - w) 32 =
    encodes-blanks (v - length (chars r)) ∙ ap (λ (n : ℕ). replicate (v - n) 32) h.1 in
    let first : encode_utf8_all (wide v (chars r)) ≡ r ++ replicate (v - w) 32 =
    encodes-append (chars r) (blanks (v - length (chars r)))
    ∙ ap (λ (x : List ℕ). x ++ encode_utf8_all (blanks (v - length (chars r)))) (encodes-chars r (IsUtf8-from_is_utf8 r h.0))
    ∙ ap (λ (x : List ℕ). r ++ x) spaces in
    let rest = rows_filled v w rs h.2 in
    cc

above_filled : (v : ℕ) (items : List Cells) → AreWhole items → most Width items ≤ v
    → map (λ r. encode_utf8_all (wide v r)) (all_above (map grid items)).rows ≡ rows_above v items
above_filled v [] h l = refl
above_filled v (c ∷ cs) h l =
    let rest = (all_above (map grid cs)).rows in
    let w = max c.width (all_above (map grid cs)).width in
    let within : w ≤ v = omega (arith, above_width cs) in
    rows_twice v w (map chars c.rows ++ rest) within
    ∙ map-append (λ r. encode_utf8_all (wide v r)) (map chars c.rows) rest
    ∙ ap (λ (x : List (List ℕ)). x ++ map (λ r. encode_utf8_all (wide v r)) rest) (rows_filled v c.width c.rows h.0.1)
    ∙ ap (λ (x : List (List ℕ)). rows_within v c ++ x) (above_filled v cs h.1 (omega arith))

-- the rows of all items, each filled to the widest
pub above_rows : (items : List Cells) → AreWhole items → rows_above (most Width items) items ≡ map encode_utf8_all (all_above (map grid items)).rows
above_rows items h =
    let g = all_above (map grid items) in
    sym (encodes-wide g.width g.rows (IsGrid-all_above items h).wide
    ∙ ap (λ (v : ℕ). map (λ r. encode_utf8_all (wide v r)) g.rows) (above_width items)
    ∙ above_filled (most Width items) items h (omega arith))

-- ---- items from the last on

pub grids-reverse : (items : List Cells) → map grid (reverse items) ≡ reverse (map grid items)
grids-reverse [] = refl
grids-reverse (c ∷ cs) =
    ap (map grid) (reverse-append (c ∷ []) cs) ∙ map-append grid (reverse cs) (c ∷ [])
    ∙ ap (λ (x : List Grid). x ++ grid c ∷ []) (grids-reverse cs) ∙ sym (reverse-append (grid c ∷ []) (map grid cs))

whole-append : (a b : List Cells) → AreWhole a → AreWhole b → AreWhole (a ++ b)
whole-append [] b h k = k
whole-append (c ∷ cs) b h k = (h.0, whole-append cs b h.1 k)

pub whole-reverse : (items : List Cells) → AreWhole items → AreWhole (reverse items)
whole-reverse [] h = tt
whole-reverse (c ∷ cs) h = rw (reverse-append (c ∷ []) cs) (whole-append (reverse cs) (c ∷ []) (whole-reverse cs h.1) (h.0, tt))

total-append : (m : Measure) (a b : List Cells) → total m (a ++ b) ≡ total m a + total m b
total-append m [] b = omega arith
total-append m (c ∷ cs) b = omega (arith, total-append m cs b)

pub total-reverse : (m : Measure) (items : List Cells) → total m (reverse items) ≡ total m items
total-reverse m [] = refl
total-reverse m (c ∷ cs) =
    ap (total m) (reverse-append (c ∷ []) cs) ∙ total-append m (reverse cs) (c ∷ []) ∙ omega (arith, total-reverse m cs)

most-append : (m : Measure) (a b : List Cells) → most m (a ++ b) ≡ max (most m a) (most m b)
most-append m [] b = omega arith
most-append m (c ∷ cs) b = omega (arith, most-append m cs b)

pub most-reverse : (m : Measure) (items : List Cells) → most m (reverse items) ≡ most m items
most-reverse m [] = refl
most-reverse m (c ∷ cs) =
    ap (most m) (reverse-append (c ∷ []) cs) ∙ most-append m (reverse cs) (c ∷ []) ∙ omega (arith, most-reverse m cs)
