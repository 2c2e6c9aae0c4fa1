-- An Element in a frame, place by place.
use Rattle.std.specs.Prelude.{ℕ, ℤ, pos, negsuc, ◌-ℤ◌, Option, Some, None, List, map, encode_utf8}
use Rattle.std.specs.List.{flat_map, range_with_len}
use Rattle.elm_meaning.specs.Layout.{cell_at, row_at}
use Rattle.cell_rows.specs.declared.frames.Margin.{Margin}
use Rattle.cell_rows.specs.declared.frames.Margin.TheVariants.{Inside, Outside}

-- where the inner edge stands: so many places inside the outer one, or one more than so many outside
abbrev pub margin_at : Margin → ℤ
margin_at (Inside n) = pos n
margin_at (Outside n) = negsuc n

-- the inner place that stands at an outer one, where it isn't before the inner edge
abbrev pub inner_place : ℤ → Option ℕ
inner_place (pos n) = Some n
inner_place (negsuc n) = None

-- the bytes of the cells from 0 on
abbrev pub framed_row : ℕ → ℤ → List ℕ → List ℕ
framed_row width left row = flat_map (λ x. encode_utf8 (cell_at (pos x -ℤ left) row)) (range_with_len 0 width)

abbrev pub frame_rows : ℕ → ℕ → ℤ → ℤ → List (List ℕ) → List (List ℕ)
frame_rows width height left top rows =
    map (λ y. framed_row width left (row_at (pos y -ℤ top) rows)) (range_with_len 0 height)
