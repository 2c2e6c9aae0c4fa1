-- Items one after the other, as rows of bytes.
use Rattle.std.specs.Prelude.{ℕ, ◌+◌, ◌-◌, max, Bool, true, false, if◌then◌else◌, nat_lt, List, [], ◌∷◌, ◌++◌, map, reverse, replicate, slice_index_or}
use Rattle.std.specs.List.{flat_map, range_with_len}
use Rattle.cell_rows.specs.declared.types.Cells.{Cells}
use Rattle.cell_rows.specs.declared.flows.Measure.{Measure}
use Rattle.cell_rows.specs.declared.flows.Measure.TheVariants.{Width, Height}

-- the items as they stand from the left or from the top
abbrev pub ordered : Bool → List Cells → List Cells
ordered false items = items
ordered true items = reverse items

abbrev pub measure_of : Measure → Cells → ℕ
measure_of Width c = c.width
measure_of Height c = c.height

abbrev pub total : Measure → List Cells → ℕ
total measure [] = 0
total measure (c ∷ cs) = measure_of measure c + total measure cs

abbrev pub most : Measure → List Cells → ℕ
most measure [] = 0
most measure (c ∷ cs) = max (measure_of measure c) (most measure cs)

-- the rows of an item, each filled to this width
abbrev pub rows_within : ℕ → Cells → List (List ℕ)
rows_within width c = map (λ row. row ++ replicate (width - c.width) 32) c.rows

abbrev pub rows_above : ℕ → List Cells → List (List ℕ)
rows_above width items = flat_map (rows_within width) items

-- the row of an item with this number, which is blank below the item
abbrev pub row_of : ℕ → Cells → List ℕ
row_of y c = if nat_lt y c.height then slice_index_or c.rows y [] else replicate c.width 32

abbrev pub row_beside : List Cells → ℕ → List ℕ
row_beside items y = flat_map (row_of y) items

abbrev pub rows_beside : ℕ → List Cells → List (List ℕ)
rows_beside height items = map (row_beside items) (range_with_len 0 height)
