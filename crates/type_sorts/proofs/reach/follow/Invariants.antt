use Rattle.std.proofs.Common.{take}
use Rattle.type_sorts.specs.Vertices.{Follows}
use Rattle.type_sorts.proofs.reach.follow.Given as goal

abbrev pub invariant-loop-edge : goal.invariant-loop-edge
invariant-loop-edge l = Follows l.vertex (take l.edge-index l.edges) l.kept l.initial.waiting l.waiting
