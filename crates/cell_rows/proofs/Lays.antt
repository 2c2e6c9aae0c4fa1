-- What calls give, laid out as the native lays it out.
use Rattle.std.proofs.Common.{◌≡◌, ℕ, ◌≤◌, Bool, true, false, List, [], ◌∷◌, map, reverse, Result, Ok, Err, IfOk, refl, sym, ap, ◌∙◌, subst, arith}
use Rattle.elm_meaning.specs.Layout.{Grid, all_above, all_beside, flow, laid_out}
use Rattle.cell_rows.specs.declared.types.Cells.{Cells}
use Rattle.cell_rows.specs.declared.types.Direction.{Direction}
use Rattle.cell_rows.specs.declared.types.Direction.TheVariants.{Up, Left}
use Rattle.cell_rows.specs.declared.flows.Measure.TheVariants.{Width, Height}
use Rattle.cell_rows.specs.Elements.{AreWhole, IsWithin, LaysOut, direction, elements, grid, flow_grid}
use Rattle.cell_rows.specs.Flows.{ordered, total, most, rows_above, rows_beside}
use Rattle.cell_rows.proofs.Grids.{lays_out}
use Rattle.cell_rows.proofs.Above.{above_width, above_height, above_rows, IsGrid-all_above, grids-reverse, whole-reverse, total-reverse, most-reverse}
use Rattle.cell_rows.proofs.Beside.{beside_width, beside_height, beside_rows, IsGrid-all_beside}
use Rattle.cell_rows.proofs.Replies.{flow_answer}

-- items in either order under each other, and side by side
abbrev pile : Bool → List Cells → Grid
pile backwards items = all_above (map grid (ordered backwards items))

abbrev line : Bool → List Cells → Grid
line backwards items = all_beside (map grid (ordered backwards items))

pub up_is : (items : List Cells) → flow_grid Up items ≡ pile true items
up_is items = ap all_above (sym (grids-reverse items))

pub left_is : (items : List Cells) → flow_grid Left items ≡ line true items
left_is items = ap all_beside (sym (grids-reverse items))

whole_ordered : (b : Bool) (items : List Cells) → AreWhole items → AreWhole (ordered b items)
whole_ordered false items h = h
whole_ordered true items h = whole-reverse items h

pub pile_height : (b : Bool) (items : List Cells) → (pile b items).height ≡ total Height items
pile_height false items = above_height items
pile_height true items = above_height (reverse items) ∙ total-reverse Height items

pile_width : (b : Bool) (items : List Cells) → (pile b items).width ≡ most Width items
pile_width false items = above_width items
pile_width true items = above_width (reverse items) ∙ most-reverse Width items

pub line_width : (b : Bool) (items : List Cells) → (line b items).width ≡ total Width items
line_width false items = beside_width items
line_width true items = beside_width (reverse items) ∙ total-reverse Width items

line_height : (b : Bool) (items : List Cells) → (line b items).height ≡ most Height items
line_height false items = beside_height items
line_height true items = beside_height (reverse items) ∙ most-reverse Height items

most_ordered : (b : Bool) (items : List Cells) → most Width (ordered b items) ≡ most Width items
most_ordered false items = refl
most_ordered true items = most-reverse Width items

highest_ordered : (b : Bool) (items : List Cells) → most Height (ordered b items) ≡ most Height items
highest_ordered false items = refl
highest_ordered true items = most-reverse Height items

-- the limit, for each direction
pub high_enough : (d : Direction) (b : Bool) (items : List Cells) → flow_grid d items ≡ pile b items → IsWithin (flow_grid d items) → total Height items ≤ 1000
high_enough d b items e w = omega (arith, pile_height b items, (subst IsWithin e w).1)

pub wide_enough : (d : Direction) (b : Bool) (items : List Cells) → flow_grid d items ≡ line b items → IsWithin (flow_grid d items) → total Width items ≤ 1000
wide_enough d b items e w = omega (arith, line_width b items, (subst IsWithin e w).0)

piled : (d : Direction) (b : Bool) (items : List Cells) (c : Cells) → flow_grid d items ≡ pile b items → AreWhole items → IsWithin (flow_grid d items)
    → c.width ≡ most Width items → c.height ≡ total Height items → c.rows ≡ rows_above (most Width items) (ordered b items)
    → LaysOut (flow (direction d ∷ elements items ∷ [])) c
piled d b items c e h w p q r =
    let whole = whole_ordered b items h in
    let laid = lays_out (pile b items) c (IsGrid-all_above (ordered b items) whole) (subst IsWithin e w)
    (p ∙ sym (pile_width b items)) (q ∙ sym (pile_height b items))
    (r ∙ ap (λ (n : ℕ). rows_above n (ordered b items)) (sym (most_ordered b items)) ∙ above_rows (ordered b items) whole) in
    (flow_answer d items ∙ ap laid_out e ∙ laid.0, laid.1)

lined : (d : Direction) (b : Bool) (items : List Cells) (c : Cells) → flow_grid d items ≡ line b items → AreWhole items → IsWithin (flow_grid d items)
    → c.width ≡ total Width items → c.height ≡ most Height items → c.rows ≡ rows_beside (most Height items) (ordered b items)
    → LaysOut (flow (direction d ∷ elements items ∷ [])) c
lined d b items c e h w p q r =
    let whole = whole_ordered b items h in
    let laid = lays_out (line b items) c (IsGrid-all_beside (ordered b items) whole) (subst IsWithin e w)
    (p ∙ sym (line_width b items)) (q ∙ sym (line_height b items))
    (r ∙ ap (λ (n : ℕ). rows_beside n (ordered b items)) (sym (highest_ordered b items)) ∙ beside_rows (ordered b items) whole) in
    (flow_answer d items ∙ ap laid_out e ∙ laid.0, laid.1)

-- the same of a call's result
pub if_piled : {E : Type 0} (d : Direction) (b : Bool) (items : List Cells) (result : Result Cells E) → flow_grid d items ≡ pile b items → AreWhole items → IsWithin (flow_grid d items)
    → IfOk result (λ c. c.width ≡ most Width items) → IfOk result (λ c. c.height ≡ total Height items) → IfOk result (λ c. c.rows ≡ rows_above (most Width items) (ordered b items))
    → IfOk result (LaysOut (flow (direction d ∷ elements items ∷ [])))
if_piled d b items (Ok c) e h w p q r = piled d b items c e h w p q r
if_piled d b items (Err x) e h w p q r = tt

pub if_lined : {E : Type 0} (d : Direction) (b : Bool) (items : List Cells) (result : Result Cells E) → flow_grid d items ≡ line b items → AreWhole items → IsWithin (flow_grid d items)
    → IfOk result (λ c. c.width ≡ total Width items) → IfOk result (λ c. c.height ≡ most Height items) → IfOk result (λ c. c.rows ≡ rows_beside (most Height items) (ordered b items))
    → IfOk result (LaysOut (flow (direction d ∷ elements items ∷ [])))
if_lined d b items (Ok c) e h w p q r = lined d b items c e h w p q r
if_lined d b items (Err x) e h w p q r = tt
