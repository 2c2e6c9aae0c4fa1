-- Elements: rectangles of cells, and how they are laid out.
use Rattle.std.specs.Prelude.{◌≡◌, ℕ, ℤ, true, pos, negsuc, ◌+◌, ◌-◌, ◌*◌, ◌/◌, ◌-ℤ◌, max, ◌&&◌, ◌||◌, if◌then◌else◌, ◌==◌, nat_lt, nat_le, Option, Some, None, List, [], ◌∷◌, ◌++◌, length, map, reverse, replicate, slice_index_or, codes}
use Rattle.std.specs.List.{range_with_len}
use Rattle.std.specs.Str.{chars, is_utf8, encode_utf8_all, bytes_eq}
use Rattle.elm_base.specs.declared.term.RunFault.TheVariants.{ElementTooLarge}
use Rattle.elm_meaning.specs.Values.{Value, Int, Text, Nil, Cons, Made, Cells, NoValues}
use Rattle.elm_meaning.specs.Answers.{Answer, Gives, Faults, Reply, free, after, no_reply}
use Rattle.elm_meaning.specs.Texts.{text_chars}

-- each row is a text of as many chars
abbrev pub RowsHave : ℕ → List (List ℕ) → Type 0
RowsHave width [] = Unit {0}
RowsHave width (row ∷ rows) = (is_utf8 row ≡ true) × (length (chars row) ≡ width) × RowsHave width rows

-- an Element has the rows that it says
abbrev pub HasRows : ℕ → ℕ → List (List ℕ) → Type 0
HasRows width height rows = (length rows ≡ height) × RowsHave width rows

-- the rows of an Element as the codes of their chars
pub record Grid : Type 0 where
  pub width : ℕ
  pub height : ℕ
  pub rows : List (List ℕ)

abbrev pub grid_of : ℕ → ℕ → List (List ℕ) → Grid
grid_of width height rows = record { width = width; height = height; rows = map chars rows }

abbrev pub element_of : Grid → Value
element_of g = Cells g.width g.height (map encode_utf8_all g.rows)

-- at most 1,000 cells wide and high
abbrev pub laid_out : Grid → Answer
laid_out g = if nat_le g.width 1000 && nat_le g.height 1000 then Gives (element_of g) else Faults ElementTooLarge

abbrev pub cell_count : Grid → ℕ
cell_count g = g.width * g.height

abbrev pub blanks : ℕ → List ℕ
blanks n = replicate n 32

abbrev pub blank_rows : ℕ → ℕ → List (List ℕ)
blank_rows n width = replicate n (blanks width)

-- a row filled with spaces on its right
abbrev pub wide : ℕ → List ℕ → List ℕ
wide width row = row ++ blanks (width - length row)

abbrev pub no_cells : Grid
no_cells = record { width = 0; height = 0; rows = [] }

abbrev pub blank : ℕ → ℕ → Grid
blank width height = record { width = width; height = height; rows = blank_rows height width }

abbrev pub onto_first : ℕ → List (List ℕ) → List (List ℕ)
onto_first c [] = (c ∷ []) ∷ []
onto_first c (line ∷ lines) = (c ∷ line) ∷ lines

-- chars split at newlines
abbrev pub lines_of : List ℕ → List (List ℕ)
lines_of [] = [] ∷ []
lines_of (c ∷ cs) = if c == 10 then [] ∷ lines_of cs else onto_first c (lines_of cs)

-- a control char is shown as a question mark
abbrev pub shown : ℕ → ℕ
shown c = if nat_lt c 32 || c == 127 then 63 else c

abbrev pub widest : List (List ℕ) → ℕ
widest [] = 0
widest (row ∷ rows) = max (length row) (widest rows)

abbrev pub text_grid : List ℕ → Grid
text_grid cs =
    let lines = lines_of cs in
    record { width = widest lines; height = length lines; rows = map (λ line. wide (widest lines) (map shown line)) lines }

-- under each other, left-aligned
abbrev pub above : Grid → Grid → Grid
above a b =
    let width = max a.width b.width in
    record { width = width; height = a.height + b.height; rows = map (wide width) (a.rows ++ b.rows) }

abbrev pub side_by_side : List (List ℕ) → List (List ℕ) → List (List ℕ)
side_by_side (r ∷ rs) (s ∷ ss) = (r ++ s) ∷ side_by_side rs ss
side_by_side _ _ = []

-- with blank rows at the bottom
abbrev pub tall : ℕ → Grid → List (List ℕ)
tall height g = g.rows ++ blank_rows (height - g.height) g.width

-- side by side, top-aligned
abbrev pub beside : Grid → Grid → Grid
beside a b =
    let height = max a.height b.height in
    record { width = a.width + b.width; height = height; rows = side_by_side (tall height a) (tall height b) }

abbrev pub all_above : List Grid → Grid
all_above [] = no_cells
all_above (g ∷ gs) = above g (all_above gs)

abbrev pub all_beside : List Grid → Grid
all_beside [] = no_cells
all_beside (g ∷ gs) = beside g (all_beside gs)

-- half, rounded down
abbrev pub half : ℤ → ℤ
half (pos n) = pos (n / 2)
half (negsuc n) = negsuc (n / 2)

abbrev pub row_at : ℤ → List (List ℕ) → List ℕ
row_at (pos y) rows = slice_index_or rows y []
row_at (negsuc y) rows = []

abbrev pub cell_at : ℤ → List ℕ → ℕ
cell_at (pos x) row = slice_index_or row x 32
cell_at (negsuc x) row = 32

-- a rectangle in which another stands with its left and top edge at these places; what falls outside is dropped
abbrev pub framed : ℕ → ℕ → ℤ → ℤ → Grid → Grid
framed width height left top g =
    record {
      width = width;
      height = height;
      rows = map (λ y. map (λ x. cell_at (pos x -ℤ left) (row_at (pos y -ℤ top) g.rows)) (range_with_len 0 width)) (range_with_len 0 height);
    }

-- where the inner edge stands, by the position's name
abbrev pub edge : List ℕ → ℕ → ℕ → Option ℤ
edge position outer inner =
    if bytes_eq position (codes "topLeft") then Some (pos 0)
    else (if bytes_eq position (codes "middle") then Some (half (pos outer -ℤ pos inner))
    else (if bytes_eq position (codes "bottomRight") then Some (pos outer -ℤ pos inner) else None))

-- a negative size is 0
abbrev pub size : ℤ → ℕ
size (pos n) = n
size (negsuc n) = 0

-- the natives that make Elements

abbrev pub text : List Value → Reply
text (Text bytes ∷ []) =
    let cs = text_chars bytes in
    let g = text_grid cs in after (length cs + cell_count g) (laid_out g)
text _ = no_reply

abbrev pub spacer : List Value → Reply
spacer (Int w ∷ Int h ∷ []) =
    let g = blank (size w) (size h) in after (cell_count g) (laid_out g)
spacer _ = no_reply

abbrev pub with_grid : Grid → Option (List Grid) → Option (List Grid)
with_grid g None = None
with_grid g (Some gs) = Some (g ∷ gs)

-- the Elements of a list
abbrev pub grids_of : Value → Option (List Grid)
grids_of Nil = Some []
grids_of (Cons (Cells w h rows) vs) = with_grid (grid_of w h rows) (grids_of vs)
grids_of _ = None

abbrev pub flowed : List ℕ → List Grid → Option Grid
flowed direction gs =
    if bytes_eq direction (codes "down") then Some (all_above gs)
    else (if bytes_eq direction (codes "up") then Some (all_above (reverse gs))
    else (if bytes_eq direction (codes "right") then Some (all_beside gs)
    else (if bytes_eq direction (codes "left") then Some (all_beside (reverse gs)) else None)))

abbrev pub laid_out_after : ℕ → Option Grid → Reply
laid_out_after work None = no_reply
laid_out_after work (Some g) = after (work + cell_count g) (laid_out g)

abbrev pub flow_of : List ℕ → Option (List Grid) → Reply
flow_of direction None = no_reply
flow_of direction (Some gs) = laid_out_after (length gs) (flowed direction gs)

abbrev pub flow : List Value → Reply
flow (Made direction NoValues ∷ items ∷ []) = flow_of direction (grids_of items)
flow _ = no_reply

abbrev pub framed_at : ℕ → ℕ → Option ℤ → Option ℤ → Grid → Reply
framed_at width height (Some left) (Some top) g = laid_out_after 0 (Some (framed width height left top g))
framed_at width height _ _ g = no_reply

abbrev pub container : List Value → Reply
container (Int w ∷ Int h ∷ Made position NoValues ∷ Cells x y rows ∷ []) =
    framed_at (size w) (size h) (edge position (size w) x) (edge position (size h) y) (grid_of x y rows)
container _ = no_reply

abbrev pub width_of : List Value → Reply
width_of (Cells w h rows ∷ []) = free (Gives (Int (pos w)))
width_of _ = no_reply

abbrev pub height_of : List Value → Reply
height_of (Cells w h rows ∷ []) = free (Gives (Int (pos h)))
height_of _ = no_reply
