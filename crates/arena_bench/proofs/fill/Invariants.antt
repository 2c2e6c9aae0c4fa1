use Rattle.std.proofs.Common.{◌≤◌, length}
use Rattle.arena_bench.proofs.fill.Given as goal

abbrev pub invariant-loop-number : goal.invariant-loop-number
invariant-loop-number l = length l.initial.arena ≤ length l.arena
