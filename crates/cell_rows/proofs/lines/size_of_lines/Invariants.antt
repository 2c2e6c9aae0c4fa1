use Rattle.std.proofs.Common.{◌≡◌, ◌+◌, ◌≤◌, drop, length}
use Rattle.elm_meaning.specs.Layout.{lines_of}
use Rattle.cell_rows.specs.Lines.{widest_from}
use Rattle.cell_rows.proofs.lines.size_of_lines.Given as goal

-- with the chars that are left it is the size of all
abbrev pub invariant-loop-code : goal.invariant-loop-code
invariant-loop-code l =
    (widest_from l.width l.here (drop l.code-index l.codes) ≡ widest_from 0 0 l.codes)
    × (l.height + length (lines_of (drop l.code-index l.codes)) ≡ length (lines_of l.codes) + 1)
    × (l.here ≤ l.code-index) × (l.height ≤ l.code-index + 1)
