use Rattle.std.proofs.Common.{◌<◌, ◌≤◌, length}
use Rattle.prims_tests.proofs.texts.nested.Given as goal

abbrev pub invariant-loop-level : goal.invariant-loop-level
invariant-loop-level l = (l.inner < length l.arena) × (length l.fn.arena ≤ length l.arena)
