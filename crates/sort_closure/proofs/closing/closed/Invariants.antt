use Rattle.std.proofs.Common.{take}
use Rattle.type_terms.specs.Terms.{nodes_of}
use Rattle.sort_closure.proofs.Filling.{IsFilled}
use Rattle.sort_closure.proofs.closing.closed.Given as goal

abbrev pub invariant-loop-below : goal.invariant-loop-below
invariant-loop-below l = IsFilled (nodes_of l.store) (take l.below-index l.notes) l.table
