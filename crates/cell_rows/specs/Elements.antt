-- What the code's cells stand for.
use Rattle.std.specs.Prelude.{◌≡◌, ℕ, ◌≤◌, List, [], ◌∷◌, map, reverse, codes}
use Rattle.elm_meaning.specs.Values.{Value, Cells as CellsValue, Nil, Cons, Made, NoValues}
use Rattle.elm_meaning.specs.Answers.{Reply, Gives}
use Rattle.elm_meaning.specs.Layout.{Grid, grid_of, HasRows, all_above, all_beside}
use Rattle.cell_rows.specs.declared.types.Cells.{Cells}
use Rattle.cell_rows.specs.declared.types.Direction.{Direction}
use Rattle.cell_rows.specs.declared.types.Direction.TheVariants.{Up, Down, Left, Right}
use Rattle.cell_rows.specs.declared.types.Size.{Size}
use Rattle.cell_rows.specs.declared.types.Position.{Position}
use Rattle.cell_rows.specs.declared.types.Position.TheVariants.{TopLeft, Middle, BottomRight}

abbrev pub element : Cells → Value
element c = CellsValue c.width c.height c.rows

abbrev pub grid : Cells → Grid
grid c = grid_of c.width c.height c.rows

-- they have the rows that they say
abbrev pub IsWhole : Cells → Type 0
IsWhole c = HasRows c.width c.height c.rows

abbrev pub AreWhole : List Cells → Type 0
AreWhole [] = Unit {0}
AreWhole (c ∷ cs) = IsWhole c × AreWhole cs

-- the cells that a native's reply gives
abbrev pub LaysOut : Reply → Cells → Type 0
LaysOut reply c = (reply.answer ≡ Gives (element c)) × IsWhole c

-- the list of these Elements
abbrev pub elements : List Cells → Value
elements [] = Nil
elements (c ∷ cs) = Cons (element c) (elements cs)

-- directions and positions are values by their names
abbrev pub direction_name : Direction → List ℕ
direction_name Up = codes "up"
direction_name Down = codes "down"
direction_name Left = codes "left"
direction_name Right = codes "right"

abbrev pub direction : Direction → Value
direction d = Made (direction_name d) NoValues

abbrev pub position_name : Position → List ℕ
position_name TopLeft = codes "topLeft"
position_name Middle = codes "middle"
position_name BottomRight = codes "bottomRight"

abbrev pub position : Position → Value
position p = Made (position_name p) NoValues

-- how the items stand
abbrev pub flow_grid : Direction → List Cells → Grid
flow_grid Down items = all_above (map grid items)
flow_grid Up items = all_above (reverse (map grid items))
flow_grid Right items = all_beside (map grid items)
flow_grid Left items = all_beside (reverse (map grid items))

-- the size of a rectangle
abbrev pub IsSizeOf : Grid → Size → Type 0
IsSizeOf g size = (size.width ≡ g.width) × (size.height ≡ g.height)

-- it is no larger than an Element can be
abbrev pub IsWithin : Grid → Type 0
IsWithin g = (g.width ≤ 1000) × (g.height ≤ 1000)
