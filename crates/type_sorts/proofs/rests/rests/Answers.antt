use Rattle.std.proofs.Common.{◌≡◌, ◌∙◌, length, sym, subst, arith, ap, ℕ}
use Rattle.type_terms.specs.declared.node.Node.TheVariants.{End}
use Rattle.type_terms.specs.Terms.{nodes_of, IsLink}
use Rattle.type_sorts.proofs.Marks.{MarkedBelow, marked-all, marked-other, marked-row, rest-some, rest-none}
use Rattle.type_sorts.proofs.rests.rests.Goals as goal
use Rattle.type_sorts.proofs.rests.rests.Goals.{in-Some, in_default}

pub loop-at-preserved : goal.loop-at-preserved
loop-at-preserved c = elim c.match-rest_of.branch [
  | in-Some w ↦
      rw w.marks-is
      (let row = rest-some c.shape.result.now w.in-Some.rest (sym c.rest_of.ensures ∙ w.in-Some.is) in
      let there = c.shape.ensures.end in
      marked-row (nodes_of c.args.store.now) c.loop-at.at there.0 w.find-end.result row.0 w.in-Some.rest c.loop-at.marks.items
      (there.2 ∙ ap End row.1) (λ no_link. c.shape.ensures.own no_link ∙ ap End row.1) w.find-end.ensures.leads w.find-end.ensures.end w.find-end.ensures.inside c.loop-at.invariant)
  | in_default w ↦
      rw w.marks-is
      (marked-other (nodes_of c.args.store.now) c.loop-at.at c.loop-at.marks.items
      (λ fields rest e. rest-none c.shape.result.now (sym c.rest_of.ensures ∙ w.in_default.is) fields rest (sym (c.shape.ensures.own (λ l. subst IsLink e l)) ∙ e))
      c.loop-at.invariant)
]

pub returns-clause-marks : goal.returns-clause-marks
returns-clause-marks c =
    let n : c.loop-at.at ≡ length (nodes_of c.args.store.now) = omega (arith, c.loop-at-test.false, c.loop-at.auto.at-end, c.terms-terms.ensures) in
    marked-all (nodes_of c.args.store.now) c.loop-at.marks.items (subst (λ (k : ℕ). MarkedBelow (nodes_of c.args.store.now) k c.loop-at.marks.items) n c.loop-at.invariant)
