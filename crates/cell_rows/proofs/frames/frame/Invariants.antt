use Rattle.std.proofs.Common.{◌≡◌, map}
use Rattle.std.specs.Str.{chars}
use Rattle.cell_rows.specs.Frames.{margin_at, frame_rows}
use Rattle.cell_rows.proofs.frames.frame.Given as goal

-- so many rows were made
abbrev pub invariant-loop-y : goal.invariant-loop-y
invariant-loop-y l = l.rows ≡ frame_rows l.width l.y (margin_at l.left) (margin_at l.top) (map chars l.inner.rows)
