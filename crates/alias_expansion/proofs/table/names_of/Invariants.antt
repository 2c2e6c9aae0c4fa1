use Rattle.std.proofs.Common.{◌≡◌, map, take}
use Rattle.alias_expansion.proofs.table.names_of.Given as goal

abbrev pub invariant-loop-spot : goal.invariant-loop-spot
invariant-loop-spot l = l.names ≡ map (λ spot. spot.name) (take l.spot-index l.spots)
