use Rattle.std.proofs.Common.{◌≡◌, take}
use Rattle.cell_rows.specs.Flows.{ordered, rows_above}
use Rattle.cell_rows.proofs.flows.pile.Given as goal

-- the items so far were piled
abbrev pub invariant-loop-at : goal.invariant-loop-at
invariant-loop-at l = l.rows ≡ rows_above l.width (take l.at (ordered l.backwards l.items))
