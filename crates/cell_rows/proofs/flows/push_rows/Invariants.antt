use Rattle.std.proofs.Common.{◌≡◌, ◌++◌, ◌-◌, map, take, replicate}
use Rattle.cell_rows.proofs.flows.push_rows.Given as goal

-- the rows so far were appended
abbrev pub invariant-loop-row : goal.invariant-loop-row
invariant-loop-row l =
    l.rows ≡ l.fn.rows ++ map (λ row. row ++ replicate (l.width - l.item.width) 32) (take l.row-index l.item.rows)
