use Rattle.std.proofs.Common.{◌≡◌, ◌++◌, take}
use Rattle.std.specs.List.{flat_map}
use Rattle.frame_text.specs.Frame.{row_line}
use Rattle.frame_text.proofs.frame.push_rows.Given as goal

-- the texts of those so far were appended
abbrev pub invariant-loop-row : goal.invariant-loop-row
invariant-loop-row l = l.out.items ≡ l.fn.out.items ++ flat_map row_line (take l.row-index l.rows)
