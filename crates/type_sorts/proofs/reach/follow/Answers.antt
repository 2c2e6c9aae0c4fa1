use Rattle.std.proofs.Common.{◌∙◌}
use Rattle.type_sorts.specs.declared.edge.Vertex.TheVariants.{Simple}
use Rattle.type_sorts.proofs.Following.{followed-taken, followed-kept}
use Rattle.type_sorts.proofs.reach.follow.Goals as goal
use Rattle.type_sorts.proofs.reach.follow.Goals.{then-is+in_ok-push, else-is+in_ok-push-2}

pub loop-edge-preserved : goal.loop-edge-preserved
loop-edge-preserved c = elim c.if-is.branch [
  | then-is+in_ok-push w ↦
      rw w.kept-is
      (followed-taken c.args.vertex c.args.edges.now c.loop-edge.kept c.args.waiting.now c.loop-edge.waiting c.if-is.waiting c.loop-edge.edge-index (record { below = Simple; above = Simple })
      c.loop-edge-test.true (c.is.ensures.0 w.if-is.true) (w.waiting-is ∙ w.in_ok-push.ensures.ok) c.loop-edge.invariant)
  | else-is+in_ok-push-2 w ↦
      rw w.waiting-is
      (followed-kept c.args.vertex c.args.edges.now c.loop-edge.kept c.if-is.kept c.args.waiting.now c.loop-edge.waiting c.loop-edge.edge-index (record { below = Simple; above = Simple })
      c.loop-edge-test.true (λ e. let t = c.is.ensures.1 e in let f = w.if-is.false in cc (t, f)) (w.kept-is ∙ w.in_ok-push-2.ensures.ok) c.loop-edge.invariant)
]
