use Rattle.std.proofs.Common.{◌≡◌, ◌++◌, ◌≤◌, drop, []}
use Rattle.cell_rows.specs.Lines.{rows_from}
use Rattle.cell_rows.proofs.lines.rows_of_lines.Given as goal

-- the rows so far, and those of the chars that are left
abbrev pub invariant-loop-code : goal.invariant-loop-code
invariant-loop-code l =
    (l.rows ++ rows_from l.width l.count l.row.items (drop l.code-index l.codes) ≡ rows_from l.width 0 [] l.codes)
    × (l.count ≤ l.code-index)
