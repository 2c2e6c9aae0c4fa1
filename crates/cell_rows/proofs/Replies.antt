-- What the natives reply, as the rectangle that is laid out.
use Rattle.std.proofs.Common.{◌≡◌, ℕ, ◌+◌, max, ℤ, pos, Option, Some, List, [], ◌∷◌, ◌++◌, map, reverse, refl, ap, ◌∙◌, arith, ◌⊎◌, ⊎_elim}
use Rattle.std.proofs.lemmas.List.{map-append, reverse-append}
use Rattle.elm_meaning.specs.Values.{Int}
use Rattle.elm_meaning.specs.Layout.{Grid, flow, flow_of, container, framed, framed_at, edge, grids_of, with_grid, laid_out, all_above, all_beside}
use Rattle.cell_rows.specs.declared.types.Cells.{Cells}
use Rattle.cell_rows.specs.declared.types.Size.{Size}
use Rattle.cell_rows.specs.declared.types.Direction.{Direction}
use Rattle.cell_rows.specs.declared.types.Direction.TheVariants.{Up, Down, Left, Right}
use Rattle.cell_rows.specs.declared.types.Position.{Position}
use Rattle.cell_rows.specs.Elements.{direction, direction_name, elements, element, grid, position, position_name, flow_grid, IsSizeOf}

grids_of-elements : (items : List Cells) → grids_of (elements items) ≡ Some (map grid items)
grids_of-elements [] = refl
grids_of-elements (c ∷ cs) = ap (with_grid (grid c)) (grids_of-elements cs)

pub flow_answer : (d : Direction) (items : List Cells) → (flow (direction d ∷ elements items ∷ [])).answer ≡ laid_out (flow_grid d items)
flow_answer Up items = ap (λ (gs : Option (List Grid)). (flow_of (direction_name Up) gs).answer) (grids_of-elements items)
flow_answer Down items = ap (λ (gs : Option (List Grid)). (flow_of (direction_name Down) gs).answer) (grids_of-elements items)
flow_answer Left items = ap (λ (gs : Option (List Grid)). (flow_of (direction_name Left) gs).answer) (grids_of-elements items)
flow_answer Right items = ap (λ (gs : Option (List Grid)). (flow_of (direction_name Right) gs).answer) (grids_of-elements items)

pub container_answer : (w h : ℕ) (p : Position) (c : Cells) (left top : ℤ) → edge (position_name p) w c.width ≡ Some left → edge (position_name p) h c.height ≡ Some top
    → (container (Int (pos w) ∷ Int (pos h) ∷ position p ∷ element c ∷ [])).answer ≡ laid_out (framed w h left top (grid c))
container_answer w h p c left top e f =
    ap (λ (x : Option ℤ). (framed_at w h x (edge (position_name p) h c.height) (grid c)).answer) e
    ∙ ap (λ (x : Option ℤ). (framed_at w h (Some left) x (grid c)).answer) f

-- ---- one more item

above_more : (gs : List Grid) (g : Grid) → ((all_above (gs ++ g ∷ [])).width ≡ max (all_above gs).width g.width) × ((all_above (gs ++ g ∷ [])).height ≡ (all_above gs).height + g.height)
above_more [] g = (omega arith, omega arith)
above_more (f ∷ fs) g = let m = above_more fs g in (omega (arith, m.0), omega (arith, m.1))

beside_more : (gs : List Grid) (g : Grid) → ((all_beside (gs ++ g ∷ [])).width ≡ (all_beside gs).width + g.width) × ((all_beside (gs ++ g ∷ [])).height ≡ max (all_beside gs).height g.height)
beside_more [] g = (omega arith, omega arith)
beside_more (f ∷ fs) g = let m = beside_more fs g in (omega (arith, m.0), omega (arith, m.1))

reverse_more : (gs : List Grid) (g : Grid) → reverse (gs ++ g ∷ []) ≡ g ∷ reverse gs
reverse_more gs g = reverse-append gs (g ∷ [])

-- the size of a flow with one more item, in each direction
pub grown_down : (items : List Cells) (c : Cells) (s t : Size) → IsSizeOf (flow_grid Down items) s → t.width ≡ max s.width c.width → t.height ≡ s.height + c.height → IsSizeOf (flow_grid Down (items ++ c ∷ [])) t
grown_down items c s t h p q =
    rw (map-append grid items (c ∷ [])) (let m = above_more (map grid items) (grid c) in (omega (arith, m.0, p, h.0), omega (arith, m.1, q, h.1)))

pub grown_right : (items : List Cells) (c : Cells) (s t : Size) → IsSizeOf (flow_grid Right items) s → t.width ≡ s.width + c.width → t.height ≡ max s.height c.height → IsSizeOf (flow_grid Right (items ++ c ∷ [])) t
grown_right items c s t h p q =
    rw (map-append grid items (c ∷ [])) (let m = beside_more (map grid items) (grid c) in (omega (arith, m.0, p, h.0), omega (arith, m.1, q, h.1)))

pub grown_up : (items : List Cells) (c : Cells) (s t : Size) → IsSizeOf (flow_grid Up items) s → t.width ≡ max s.width c.width → t.height ≡ s.height + c.height → IsSizeOf (flow_grid Up (items ++ c ∷ [])) t
grown_up items c s t h p q =
    rw (map-append grid items (c ∷ []), reverse_more (map grid items) (grid c)) (omega (arith, p, h.0), omega (arith, q, h.1))

pub grown_left : (items : List Cells) (c : Cells) (s t : Size) → IsSizeOf (flow_grid Left items) s → t.width ≡ s.width + c.width → t.height ≡ max s.height c.height → IsSizeOf (flow_grid Left (items ++ c ∷ [])) t
grown_left items c s t h p q =
    rw (map-append grid items (c ∷ []), reverse_more (map grid items) (grid c)) (omega (arith, p, h.0), omega (arith, q, h.1))

pub grown_pile : (d : Direction) (items : List Cells) (c : Cells) (s t : Size) → (d ≡ Up) ⊎ (d ≡ Down) → IsSizeOf (flow_grid d items) s → t.width ≡ max s.width c.width → t.height ≡ s.height + c.height → IsSizeOf (flow_grid d (items ++ c ∷ [])) t
grown_pile Up items c s t o h p q = grown_up items c s t h p q
grown_pile Down items c s t o h p q = grown_down items c s t h p q
grown_pile Left items c s t o h p q = ⊎_elim (λ e. absurd (cc)) (λ e. absurd (cc)) o
grown_pile Right items c s t o h p q = ⊎_elim (λ e. absurd (cc)) (λ e. absurd (cc)) o

pub grown_line : (d : Direction) (items : List Cells) (c : Cells) (s t : Size) → (d ≡ Left) ⊎ (d ≡ Right) → IsSizeOf (flow_grid d items) s → t.width ≡ s.width + c.width → t.height ≡ max s.height c.height → IsSizeOf (flow_grid d (items ++ c ∷ [])) t
grown_line Up items c s t o h p q = ⊎_elim (λ e. absurd (cc)) (λ e. absurd (cc)) o
grown_line Down items c s t o h p q = ⊎_elim (λ e. absurd (cc)) (λ e. absurd (cc)) o
grown_line Left items c s t o h p q = grown_left items c s t h p q
grown_line Right items c s t o h p q = grown_right items c s t h p q
