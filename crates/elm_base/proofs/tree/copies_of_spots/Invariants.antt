use Rattle.std.proofs.Common.{◌≡◌, take}
use Rattle.elm_base.proofs.tree.copies_of_spots.Given as goal

-- the copies so far are those of the spots so far
abbrev pub invariant-loop-spot : goal.invariant-loop-spot
invariant-loop-spot l = l.copied ≡ take l.spot-index l.spots
