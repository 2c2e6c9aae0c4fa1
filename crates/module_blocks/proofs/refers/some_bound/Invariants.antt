use Rattle.std.proofs.Common.{◌≡◌, false, take}
use Rattle.module_blocks.specs.Refers as spec
use Rattle.module_blocks.proofs.refers.some_bound.Given as goal

abbrev pub invariant-loop-spot : goal.invariant-loop-spot
invariant-loop-spot l = spec.some_bound l.«module» l.thing (take l.spot-index l.spots) ≡ false
