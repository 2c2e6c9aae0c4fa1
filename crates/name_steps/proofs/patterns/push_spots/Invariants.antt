use Rattle.std.proofs.Common.{◌≡◌, ◌++◌, take}
use Rattle.name_steps.proofs.patterns.push_spots.Given as goal

abbrev pub invariant-loop-spot : goal.invariant-loop-spot
invariant-loop-spot l = l.out ≡ l.fn.out ++ take l.spot-index l.spots
