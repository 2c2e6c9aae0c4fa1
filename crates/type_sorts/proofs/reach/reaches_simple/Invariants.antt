use Rattle.std.proofs.Common.{◌+◌, List, length}
use Rattle.type_sorts.specs.declared.edge.Vertex.{Vertex}
use Rattle.type_sorts.proofs.Following.{Searching}
use Rattle.type_sorts.proofs.reach.reaches_simple.Given as goal

abbrev pub invariant-loop-vertex : goal.invariant-loop-vertex
invariant-loop-vertex l = (signals : List Vertex) × Searching l.fn.edges l.left l.waiting signals

abbrev pub decreases-loop-vertex : goal.decreases-loop-vertex
decreases-loop-vertex l = length l.left + length l.waiting
