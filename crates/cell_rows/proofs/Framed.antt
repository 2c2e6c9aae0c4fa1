-- An Element in a frame.
use Rattle.std.proofs.Common.{◌≡◌, ℕ, zero, suc, ◌+◌, ℤ, pos, negsuc, ◌-ℤ◌, true, List, [], ◌∷◌, ◌++◌, get_or, map, refl, sym, ap, ◌∙◌, arith, append_assoc}
use Rattle.std.specs.List.{flat_map, range_with_len}
use Rattle.std.specs.Char.{encode_utf8}
use Rattle.std.specs.Str.{chars, encode_utf8_all, all_scalars}
use Rattle.std.proofs.lemmas.List.{append-nil, map-id}
use Rattle.std.proofs.lemmas.List.FromFn.{length-map-range_with_len, map-range_with_len_more}
use Rattle.elm_meaning.specs.Layout.{Grid, framed, cell_at, row_at}
use Rattle.cell_rows.specs.Frames.{framed_row, frame_rows}
use Rattle.cell_rows.proofs.Codes.{encodes-map, map-map, map-same, scalars-parts, scalars-cons}
use Rattle.cell_rows.proofs.Grids.{AreRows, IsGrid}

pub frame_rows_are : (width height : ℕ) (left top : ℤ) (g : Grid) → frame_rows width height left top g.rows ≡ map encode_utf8_all (framed width height left top g).rows
frame_rows_are width height left top g =
    map-same (λ y. framed_row width left (row_at (pos y -ℤ top) g.rows))
    (λ y. encode_utf8_all (map (λ x. cell_at (pos x -ℤ left) (row_at (pos y -ℤ top) g.rows)) (range_with_len 0 width)))
    (range_with_len 0 height)
    (λ y. sym (encodes-map (λ x. cell_at (pos x -ℤ left) (row_at (pos y -ℤ top) g.rows)) (range_with_len 0 width)))
    ∙ sym (map-map encode_utf8_all (λ y. map (λ x. cell_at (pos x -ℤ left) (row_at (pos y -ℤ top) g.rows)) (range_with_len 0 width)) (range_with_len 0 height))

cell_scalar : (x : ℤ) (row : List ℕ) → all_scalars row ≡ true → all_scalars (cell_at x row ∷ []) ≡ true
cell_scalar (negsuc n) row h = refl
cell_scalar (pos n) [] h = refl
cell_scalar (pos zero) (c ∷ cs) h = (scalars-parts c cs h).0
cell_scalar (pos (suc n)) (c ∷ cs) h = cell_scalar (pos n) cs (scalars-parts c cs h).1

row_scalars : (y : ℤ) (width : ℕ) (rows : List (List ℕ)) → AreRows width rows → all_scalars (row_at y rows) ≡ true
row_scalars (negsuc n) width rows h = refl
row_scalars (pos n) width [] h = refl
row_scalars (pos zero) width (r ∷ rs) h = h.0
row_scalars (pos (suc n)) width (r ∷ rs) h = row_scalars (pos n) width rs h.2

scalars-map : (f : ℕ → ℕ) (xs : List ℕ) → ((x : ℕ) → all_scalars (f x ∷ []) ≡ true) → all_scalars (map f xs) ≡ true
scalars-map f [] h = refl
scalars-map f (x ∷ xs) h = scalars-cons (f x) (map f xs) (h x) (scalars-map f xs h)

rows_framed : (width : ℕ) (f : ℕ → ℕ → ℕ) (ys : List ℕ) → ((y x : ℕ) → all_scalars (f y x ∷ []) ≡ true) → AreRows width (map (λ y. map (f y) (range_with_len 0 width)) ys)
rows_framed width f [] h = tt
rows_framed width f (y ∷ ys) h =
    (scalars-map (f y) (range_with_len 0 width) (h y), length-map-range_with_len (f y) 0 width, rows_framed width f ys h)

pub IsGrid-framed : (width height : ℕ) (left top : ℤ) (g : Grid) → IsGrid g → IsGrid (framed width height left top g)
IsGrid-framed width height left top g i = record {
  tall = length-map-range_with_len (λ y. map (λ x. cell_at (pos x -ℤ left) (row_at (pos y -ℤ top) g.rows)) (range_with_len 0 width)) 0 height;
  wide =
      rows_framed width (λ y x. cell_at (pos x -ℤ left) (row_at (pos y -ℤ top) g.rows)) (range_with_len 0 height)
      (λ y x. cell_scalar (pos x -ℤ left) (row_at (pos y -ℤ top) g.rows) (row_scalars (pos y -ℤ top) g.width g.rows i.wide));
}

-- the chars of a row among rows
pub row_at-chars : (n : ℕ) (rows : List (List ℕ)) → chars [] ≡ [] → row_at (pos n) (map chars rows) ≡ chars (get_or rows n [])
row_at-chars n [] h = sym h
row_at-chars zero (r ∷ rs) h = refl
row_at-chars (suc n) (r ∷ rs) h = row_at-chars n rs h

flat_map-append : {X A : Type 0} (f : X → List A) (xs ys : List X) → flat_map f (xs ++ ys) ≡ flat_map f xs ++ flat_map f ys
flat_map-append f [] ys = refl
flat_map-append f (x ∷ xs) ys = ap (λ r. f x ++ r) (flat_map-append f xs ys) ∙ sym (append_assoc (f x) (flat_map f xs) (flat_map f ys))

-- one more cell
pub framed-more : (x : ℕ) (left : ℤ) (row : List ℕ) → framed_row (x + 1) left row ≡ framed_row x left row ++ encode_utf8 (cell_at (pos x -ℤ left) row)
framed-more x left row =
    let cell = λ (k : ℕ). encode_utf8 (cell_at (pos k -ℤ left) row) in
    let more : range_with_len 0 (x + 1) ≡ range_with_len 0 x ++ x ∷ [] =
    sym (map-id (range_with_len 0 (x + 1))) ∙ map-range_with_len_more (λ (k : ℕ). k) 0 x x (omega arith) ∙ ap (λ (r : List ℕ). r ++ x ∷ []) (map-id (range_with_len 0 x)) in
    ap (flat_map cell) more ∙ flat_map-append cell (range_with_len 0 x) (x ∷ [])
    ∙ ap (λ (r : List ℕ). flat_map cell (range_with_len 0 x) ++ r) (append-nil (cell x))
