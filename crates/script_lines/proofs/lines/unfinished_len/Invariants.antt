use Rattle.std.proofs.Common.{◌≡◌, length}
use Rattle.script_lines.specs.Kept.{unfinished}
use Rattle.script_lines.proofs.lines.unfinished_len.Given as goal

-- what is left has the same open line
abbrev pub invariant-loop-rest : goal.invariant-loop-rest
invariant-loop-rest l = unfinished l.bytes ≡ unfinished l.fn.bytes

abbrev pub decreases-loop-rest : goal.decreases-loop-rest
decreases-loop-rest l = length l.bytes
