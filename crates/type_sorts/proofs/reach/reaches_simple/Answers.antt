use Rattle.std.proofs.Common.{◌∙◌, ◌++◌, List, [], ◌∷◌, sym, ap, subst, refl}
use Rattle.type_sorts.specs.declared.edge.Edge.{Edge}
use Rattle.type_sorts.specs.declared.edge.Vertex.{Vertex}
use Rattle.type_sorts.specs.declared.edge.Vertex.TheVariants.{Signal}
use Rattle.type_sorts.specs.Vertices.{Reached, Member, Follows}
use Rattle.type_sorts.proofs.Following.{searching-begins, searching-goes, searching-ends, Member-last}
use Rattle.type_sorts.proofs.reach.reaches_simple.Goals as goal

pub loop-vertex-init : goal.loop-vertex-init
loop-vertex-init c =
    ([], searching-begins c.args.edges c.push.new.self (c.in_ok-push.ensures.ok ∙ ap (λ (l : List Vertex). l ++ Signal ∷ []) c.new-waiting.ensures))

pub returns-then-is-clause-reached : goal.returns-then-is-clause-reached
returns-then-is-clause-reached c = λ _.
    let same = c.is.ensures.0 c.if-is.true in
    subst (Reached c.args.edges) same
    (c.loop-vertex.invariant.1.reached c.in-Some.vertex (subst (Member c.in-Some.vertex) (sym c.in-Some.ensures) (Member-last c.in-Some.vertex c.in-Some.vertex c.pop.new.self refl)))

pub loop-vertex-preserved : goal.loop-vertex-preserved
loop-vertex-preserved c =
    let found = c.loop-vertex.invariant in (
      c.in-Some.vertex ∷ found.0,
      searching-goes c.args.edges c.loop-vertex.left c.in_ok-left.left c.loop-vertex.waiting c.pop.new.self c.follow.new.waiting found.0 c.in-Some.vertex c.in-Some.ensures
          (λ same. let t = c.is.ensures.1 same in let f = c.if-is.false in cc (t, f))
          (subst (λ (l : List Edge). Follows c.in-Some.vertex l c.in_ok-left.left c.pop.new.self c.follow.new.waiting) c.as_slice.ensures c.in_ok-left.ensures)
          found.1,
    )

pub returns-clause-separate : goal.returns-clause-separate
returns-clause-separate c = λ _.
    let found = c.loop-vertex.invariant in
    (found.0, searching-ends c.args.edges c.loop-vertex.left c.loop-vertex.waiting found.0 c.in_default.ensures.0 found.1)
