use Rattle.std.proofs.Common.{take}
use Rattle.type_terms.specs.Terms.{nodes_of}
use Rattle.type_sorts.specs.Vertices.{AreEdges}
use Rattle.type_sorts.proofs.notes.edges.Given as goal

abbrev pub invariant-loop-below : goal.invariant-loop-below
invariant-loop-below l = AreEdges (nodes_of l.store) (take l.below-index l.below-items) l.edges
