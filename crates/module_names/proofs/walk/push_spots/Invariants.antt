use Rattle.std.proofs.Common.{◌≡◌, ◌++◌, take}
use Rattle.module_names.proofs.walk.push_spots.Given as goal

abbrev pub invariant-loop-spot : goal.invariant-loop-spot
invariant-loop-spot l = l.out.items ≡ l.fn.out.items ++ take l.spot-index l.spots
