use Rattle.std.proofs.Common.{◌∙◌, ℕ, List, [], ◌∷◌, ◌++◌, length, take, get_or, add-one, sym, ap, subst}
use Rattle.std.proofs.Math.Seq.{take-suc}
use Rattle.type_terms.specs.Terms.{nodes_of}
use Rattle.type_sorts.specs.Vertices.{AreEdges}
use Rattle.type_sorts.proofs.Meaning.{edges-more, note-inside}
use Rattle.type_sorts.proofs.notes.edges.Goals as goal

pub vertex-requires-clause-inside : goal.vertex-requires-clause-inside
vertex-requires-clause-inside c =
    (note-inside (length (nodes_of c.args.store.now)) c.notes-below-items.result.now c.loop-below.below-index c.notes-below-items.ensures.inside c.loop-below-test.true).0

pub vertex-requires-in-loop-below-clause-inside : goal.vertex-requires-in-loop-below-clause-inside
vertex-requires-in-loop-below-clause-inside c =
    (note-inside (length (nodes_of c.args.store.now)) c.notes-below-items.result.now c.loop-below.below-index c.notes-below-items.ensures.inside c.loop-below-test.true).1

pub loop-below-preserved : goal.loop-below-preserved
loop-below-preserved c =
    subst (λ (l : List (ℕ × ℕ)). AreEdges (nodes_of c.args.store.now) l c.push.new.self)
    (sym (ap (λ (k : ℕ). take k c.notes-below-items.result.now) (add-one c.loop-below.below-index) ∙ take-suc c.notes-below-items.result.now c.loop-below.below-index (0, 0) c.loop-below-test.true))
    (subst (AreEdges (nodes_of c.args.store.now) (take c.loop-below.below-index c.notes-below-items.result.now ++ get_or c.notes-below-items.result.now c.loop-below.below-index (0, 0) ∷ [])) (sym c.in_ok-push.ensures.ok)
    (edges-more (nodes_of c.args.store.now) (take c.loop-below.below-index c.notes-below-items.result.now) c.loop-below.edges (get_or c.notes-below-items.result.now c.loop-below.below-index (0, 0))
    (record { below = c.vertex.result; above = c.vertex-in-loop-below.result }) c.loop-below.invariant c.vertex.ensures c.vertex-in-loop-below.ensures))
