use Rattle.std.proofs.Common.{◌≡◌, ℕ, ◌<◌, length}
use Rattle.elm_typing.specs.Sorts.{Sort, sort_of}
use Rattle.type_terms.specs.Terms.{IsLink, node_at, nodes_of}
use Rattle.type_terms.specs.Solutions.{Assignment, Solves}
use Rattle.type_terms.specs.Depth.{weight}
use Rattle.type_sorts.proofs.vertex.last_result.Given as goal

abbrev pub invariant-loop-to : goal.invariant-loop-to
invariant-loop-to l = record {
  inside : l.end < length (nodes_of l.store);
  end : IsLink (node_at (nodes_of l.store) l.end) → ⊥;
  sort : (s : Assignment) (chosen : ℕ → Sort) → Solves (nodes_of l.store) s → sort_of chosen (s l.fn.at) ≡ sort_of chosen (s l.end);
}

abbrev pub decreases-loop-to : goal.decreases-loop-to
decreases-loop-to l = weight l.store l.end
