-- Two small items one after the other are within the limit.
use Rattle.std.proofs.Common.{ℕ, ◌≤◌, ◌∷◌, [], arith}
use Rattle.cell_rows.specs.declared.types.Cells.{Cells}
use Rattle.cell_rows.specs.declared.types.Direction.{Direction}
use Rattle.cell_rows.specs.declared.types.Direction.TheVariants.{Up, Down, Left, Right}
use Rattle.cell_rows.specs.Elements.{IsWithin, flow_grid}

pub within_two : (d : Direction) (a b : Cells) → a.width ≤ 500 → b.width ≤ 500 → a.height ≤ 500 → b.height ≤ 500 → IsWithin (flow_grid d (a ∷ b ∷ []))
within_two Up a b p q r s = (omega arith, omega arith)
within_two Down a b p q r s = (omega arith, omega arith)
within_two Left a b p q r s = (omega arith, omega arith)
within_two Right a b p q r s = (omega arith, omega arith)
