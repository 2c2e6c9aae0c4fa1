use Rattle.std.proofs.Common.{◌≡◌, map, take}
use Rattle.block_groups.specs.Placed as spec
use Rattle.block_groups.proofs.placed.places_of.Given as goal

abbrev pub invariant-loop-member : goal.invariant-loop-member
invariant-loop-member l = l.places ≡ map (spec.place_of l.definitions) (take l.member-index l.members)
