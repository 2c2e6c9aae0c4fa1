use Rattle.std.proofs.Common.{◌≡◌, take}
use Rattle.cell_rows.specs.Flows.{ordered, row_beside}
use Rattle.cell_rows.proofs.flows.joined_row.Given as goal

-- the rows of the items so far stand beside each other
abbrev pub invariant-loop-at : goal.invariant-loop-at
invariant-loop-at l = l.row.items ≡ row_beside (take l.at (ordered l.backwards l.items)) l.y
