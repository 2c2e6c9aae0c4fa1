use Rattle.std.proofs.Common.{◌≡◌}
use Rattle.cell_rows.specs.Flows.{ordered, rows_beside}
use Rattle.cell_rows.proofs.flows.beside.Given as goal

-- so many rows were made
abbrev pub invariant-loop-y : goal.invariant-loop-y
invariant-loop-y l = l.rows ≡ rows_beside l.y (ordered l.backwards l.items)
