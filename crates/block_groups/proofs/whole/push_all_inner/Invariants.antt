use Rattle.std.proofs.Common.{take}
use Rattle.block_groups.specs.Blocks as spec
use Rattle.block_groups.specs.Growing.{Grows}
use Rattle.block_groups.proofs.whole.push_all_inner.Given as goal

abbrev pub invariant-loop-step : goal.invariant-loop-step
invariant-loop-step l = Grows l.«module» l.uses (spec.inner_blocks (take l.step-index l.steps)) l.fn.found l.found
