use Rattle.std.proofs.Common.{◌≡◌}
use Rattle.cell_rows.specs.Frames.{margin_at, framed_row}
use Rattle.cell_rows.proofs.frames.framed.Given as goal

-- so many cells were appended
abbrev pub invariant-loop-x : goal.invariant-loop-x
invariant-loop-x l = l.row.items ≡ framed_row l.x (margin_at l.left) l.codes
