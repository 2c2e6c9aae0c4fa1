use Rattle.std.proofs.Common.{◌≡◌, replicate}
use Rattle.cell_rows.proofs.blanks.blank_rows.Given as goal

-- so many rows were made
abbrev pub invariant-loop-at : goal.invariant-loop-at
invariant-loop-at l = l.rows ≡ replicate l.at (replicate l.width 32)
