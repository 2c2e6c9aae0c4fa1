-- Items side by side.
use Rattle.std.proofs.Common.{◌≡◌, ℕ, zero, suc, ◌+◌, ◌-◌, ◌<◌, ◌≤◌, max, Bool, true, false, ltb, if◌then◌else◌, List, [], ◌∷◌, ◌++◌, length, get_or, map, replicate, refl, sym, ap, ◌∙◌, arith, append_assoc, length-append}
use Rattle.std.specs.List.{range_with_len}
use Rattle.std.specs.Str.{chars, encode_utf8_all}
use Rattle.std.proofs.lemmas.Bool.{ltb-true, ltb-false}
use Rattle.std.proofs.lemmas.List.{append-nil, length-replicate, map-append, replicate-append-replicate, get_or_append_left, get_or-append_right, get_or-replicate}
use Rattle.std.proofs.lemmas.List.FromFn.{fill_by_all}
use Rattle.std.proofs.lemmas.Str.{encodes-append}
use Rattle.elm_meaning.specs.Layout.{Grid, blanks, blank_rows, beside, all_beside, side_by_side, tall}
use Rattle.cell_rows.specs.declared.types.Cells.{Cells}
use Rattle.cell_rows.specs.declared.flows.Measure.TheVariants.{Width, Height}
use Rattle.cell_rows.specs.Elements.{IsWhole, AreWhole, grid}
use Rattle.cell_rows.specs.Flows.{total, most, row_of, row_beside, rows_beside}
use Rattle.cell_rows.proofs.Codes.{encodes_rows, encodes_blank_rows, scalars-append}
use Rattle.cell_rows.proofs.Grids.{AreRows, IsGrid, IsGrid-none, IsGrid-whole, AreRows-append, AreRows-blank}

pub beside_width : (items : List Cells) → (all_beside (map grid items)).width ≡ total Width items
beside_width [] = refl
beside_width (c ∷ cs) = ap (λ (n : ℕ). c.width + n) (beside_width cs)

pub beside_height : (items : List Cells) → (all_beside (map grid items)).height ≡ most Height items
beside_height [] = refl
beside_height (c ∷ cs) = ap (max c.height) (beside_height cs)

length-tall : (h : ℕ) (g : Grid) → IsGrid g → g.height ≤ h → length (tall h g) ≡ h
length-tall h g i l =
    let a = length-append g.rows (blank_rows (h - g.height) g.width) in
    let b = length-replicate (h - g.height) (blanks g.width) in
    omega (arith, a, b, i.tall)

AreRows-tall : (h : ℕ) (g : Grid) → IsGrid g → AreRows g.width (tall h g)
AreRows-tall h g i = AreRows-append g.width g.rows (blank_rows (h - g.height) g.width) i.wide (AreRows-blank (h - g.height) g.width)

length-side_by_side : (a b : List (List ℕ)) (n : ℕ) → length a ≡ n → length b ≡ n → length (side_by_side a b) ≡ n
length-side_by_side [] b n p q = p
length-side_by_side (r ∷ rs) [] n p q = absurd (omega (arith, p, q))
length-side_by_side (r ∷ rs) (s ∷ ss) zero p q = absurd (omega (arith, p))
length-side_by_side (r ∷ rs) (s ∷ ss) (suc n) p q = ap suc (length-side_by_side rs ss n (omega arith) (omega arith))

AreRows-side_by_side : (v w : ℕ) (a b : List (List ℕ)) → AreRows v a → AreRows w b → AreRows (v + w) (side_by_side a b)
AreRows-side_by_side v w [] b h k = tt
AreRows-side_by_side v w (r ∷ rs) [] h k = tt
AreRows-side_by_side v w (r ∷ rs) (s ∷ ss) h k =
    (scalars-append r s h.0 k.0, length-append r s ∙ omega (arith, h.1, k.1), AreRows-side_by_side v w rs ss h.2 k.2)

IsGrid-beside : (a b : Grid) → IsGrid a → IsGrid b → IsGrid (beside a b)
IsGrid-beside a b i j =
    let h = max a.height b.height in record {
      tall = length-side_by_side (tall h a) (tall h b) h (length-tall h a i (omega arith)) (length-tall h b j (omega arith));
      wide = AreRows-side_by_side a.width b.width (tall h a) (tall h b) (AreRows-tall h a i) (AreRows-tall h b j);
    }

pub IsGrid-all_beside : (items : List Cells) → AreWhole items → IsGrid (all_beside (map grid items))
IsGrid-all_beside [] h = IsGrid-none
IsGrid-all_beside (c ∷ cs) h =
    IsGrid-beside (grid c) (all_beside (map grid cs)) (IsGrid-whole c h.0) (IsGrid-all_beside cs h.1)

-- ---- blank rows below both

side_by_side-append : (a b c d : List (List ℕ)) → length a ≡ length b → side_by_side (a ++ c) (b ++ d) ≡ side_by_side a b ++ side_by_side c d
side_by_side-append [] [] c d h = refl
side_by_side-append [] (s ∷ ss) c d h = absurd (omega arith)
side_by_side-append (r ∷ rs) [] c d h = absurd (omega arith)
side_by_side-append (r ∷ rs) (s ∷ ss) c d h =
    ap (λ (x : List (List ℕ)). (r ++ s) ∷ x) (side_by_side-append rs ss c d (omega arith))

side_by_side-blank : (n v w : ℕ) → side_by_side (blank_rows n v) (blank_rows n w) ≡ blank_rows n (v + w)
side_by_side-blank zero v w = refl
side_by_side-blank (suc n) v w =
    let first : blanks v ++ blanks w ≡ blanks (v + w) = replicate-append-replicate v w 32 in
    let rest = side_by_side-blank n v w in
    cc

tall-more : (h v : ℕ) (g : Grid) → g.height ≤ h → h ≤ v → tall v g ≡ tall h g ++ blank_rows (v - h) g.width
tall-more h v g l m =
    let n : (h - g.height) + (v - h) ≡ v - g.height = omega arith in
    sym (append_assoc g.rows (blank_rows (h - g.height) g.width) (blank_rows (v - h) g.width)
    ∙ ap (λ (x : List (List ℕ)). g.rows ++ x) (replicate-append-replicate (h - g.height) (v - h) (blanks g.width) ∙ ap (λ (k : ℕ). blank_rows k g.width) n))

tall-beside : (v : ℕ) (a b : Grid) → IsGrid a → IsGrid b → max a.height b.height ≤ v → tall v (beside a b) ≡ side_by_side (tall v a) (tall v b)
tall-beside v a b i j l =
    let h = max a.height b.height in
    sym (ap (λ (x : List (List ℕ)). side_by_side x (tall v b)) (tall-more h v a (omega arith) l)
    ∙ ap (side_by_side (tall h a ++ blank_rows (v - h) a.width)) (tall-more h v b (omega arith) l)
    ∙ side_by_side-append (tall h a) (tall h b) (blank_rows (v - h) a.width) (blank_rows (v - h) b.width)
    (length-tall h a i (omega arith) ∙ sym (length-tall h b j (omega arith)))
    ∙ ap (λ (x : List (List ℕ)). side_by_side (tall h a) (tall h b) ++ x) (side_by_side-blank (v - h) a.width b.width))

-- ---- as bytes, row by row

encodes_beside : (a b : List (List ℕ)) → map encode_utf8_all (side_by_side a b) ≡ side_by_side (map encode_utf8_all a) (map encode_utf8_all b)
encodes_beside [] b = refl
encodes_beside (r ∷ rs) [] = refl
encodes_beside (r ∷ rs) (s ∷ ss) =
    let first = encodes-append r s in let rest = encodes_beside rs ss in cc

side_by_row : (f g : ℕ → List ℕ) (k n : ℕ) → side_by_side (map f (range_with_len k n)) (map g (range_with_len k n)) ≡ map (λ y. f y ++ g y) (range_with_len k n)
side_by_row f g k zero = refl
side_by_row f g k (suc n) = ap (λ (x : List (List ℕ)). (f k ++ g k) ∷ x) (side_by_row f g (k + 1) n)

row_turn : (t : Bool) (c : Cells) (v y : ℕ) → ltb y c.height ≡ t → length c.rows ≡ c.height → y < v
    → get_or (c.rows ++ replicate (v - c.height) (replicate c.width 32)) y [] ≡ (if t then get_or c.rows y [] else replicate c.width 32)
row_turn true c v y e p l =
    let in' : y < c.height = ltb-true y c.height e in
    get_or_append_left c.rows (replicate (v - c.height) (replicate c.width 32)) [] y (omega arith)
row_turn false c v y e p l =
    let out : c.height ≤ y = ltb-false y c.height e in
    get_or-append_right c.rows (replicate (v - c.height) (replicate c.width 32)) c.height y [] p out
    ∙ get_or-replicate (v - c.height) (y - c.height) (replicate c.width 32) [] (omega arith)

tall_item : (v : ℕ) (c : Cells) → IsWhole c → c.height ≤ v → map encode_utf8_all (tall v (grid c)) ≡ map (λ y. row_of y c) (range_with_len 0 v)
tall_item v c w l =
    let blank' = replicate (v - c.height) (replicate c.width 32) in
    let bytes : map encode_utf8_all (tall v (grid c)) ≡ c.rows ++ blank' =
    map-append encode_utf8_all (map chars c.rows) (blank_rows (v - c.height) c.width)
    ∙ ap (λ (x : List (List ℕ)). x ++ map encode_utf8_all (blank_rows (v - c.height) c.width)) (encodes_rows c.width c.rows w.1)
    ∙ ap (λ (x : List (List ℕ)). c.rows ++ x) (encodes_blank_rows (v - c.height) c.width) in
    let long : length (c.rows ++ blank') ≡ v =
    length-append c.rows blank' ∙ omega (arith, w.0, length-replicate (v - c.height) (replicate {A = ℕ} c.width 32)) in
    bytes
    ∙ fill_by_all (λ y. row_of y c) (c.rows ++ blank') v [] long
    (λ y h. row_turn (ltb y c.height) c v y refl w.0 h)

nothing : (k n : ℕ) → replicate {A = List ℕ} n [] ≡ map (λ y. []) (range_with_len k n)
nothing k zero = refl
nothing k (suc n) = ap (λ (x : List (List ℕ)). [] ∷ x) (nothing (k + 1) n)

tall_beside_rows : (v : ℕ) (items : List Cells) → AreWhole items → most Height items ≤ v
    → map encode_utf8_all (tall v (all_beside (map grid items))) ≡ rows_beside v items
tall_beside_rows v [] h l =
    let all : v - 0 ≡ v = omega arith in
    ap (λ (n : ℕ). map encode_utf8_all (blank_rows n 0)) all ∙ encodes_blank_rows v 0 ∙ nothing 0 v
tall_beside_rows v (c ∷ cs) h l =
    let rest = all_beside (map grid cs) in
    let within : max c.height rest.height ≤ v = omega (arith, beside_height cs) in
    ap (map encode_utf8_all) (tall-beside v (grid c) rest (IsGrid-whole c h.0) (IsGrid-all_beside cs h.1) within)
    ∙ encodes_beside (tall v (grid c)) (tall v rest)
    ∙ ap (λ (x : List (List ℕ)). side_by_side x (map encode_utf8_all (tall v rest))) (tall_item v c h.0 (omega arith))
    ∙ ap (side_by_side (map (λ y. row_of y c) (range_with_len 0 v))) (tall_beside_rows v cs h.1 (omega arith))
    ∙ side_by_row (λ y. row_of y c) (row_beside cs) 0 v

pub beside_rows : (items : List Cells) → AreWhole items → rows_beside (most Height items) items ≡ map encode_utf8_all (all_beside (map grid items)).rows
beside_rows items h =
    let g = all_beside (map grid items) in
    let same : g.height - most Height items ≡ 0 = omega (arith, beside_height items) in
    let none : most Height items - g.height ≡ 0 = omega (arith, beside_height items) in
    sym (tall_beside_rows (most Height items) items h (omega arith))
    ∙ ap (λ (n : ℕ). map encode_utf8_all (g.rows ++ blank_rows n g.width)) none
    ∙ ap (map encode_utf8_all) (append-nil g.rows)
