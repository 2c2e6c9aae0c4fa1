use Rattle.std.proofs.Common.{take}
use Rattle.value_arena.specs.Soundness.{RefsBelow}
use Rattle.natives_tests.proofs.stock.stands.Given as goal

-- the places so far are below
abbrev pub invariant-loop-at : goal.invariant-loop-at
invariant-loop-at l = RefsBelow l.below (take l.at-index l.refs)
