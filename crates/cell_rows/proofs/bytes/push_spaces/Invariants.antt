use Rattle.std.proofs.Common.{◌≡◌, ◌++◌, replicate}
use Rattle.cell_rows.proofs.bytes.push_spaces.Given as goal

-- so many spaces were appended
abbrev pub invariant-loop-at : goal.invariant-loop-at
invariant-loop-at l = l.out.items ≡ l.fn.out.items ++ replicate l.at 32
