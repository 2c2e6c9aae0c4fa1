use Rattle.std.proofs.Common.{◌<◌, ◌≤◌, length}
use Rattle.prims_bench.proofs.list.Given as goal

abbrev pub invariant-loop-number : goal.invariant-loop-number
invariant-loop-number l = (l.tail < length l.arena) × (length l.fn.arena ≤ length l.arena)
