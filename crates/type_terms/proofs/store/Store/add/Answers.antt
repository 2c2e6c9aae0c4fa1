use Rattle.std.proofs.Common.{◌∙◌, List, length, subst, arith}
use Rattle.type_terms.specs.declared.node.Node.{Node}
use Rattle.type_terms.specs.declared.node.Node.TheVariants.{End}
use Rattle.type_terms.specs.declared.change.Change.TheVariants.{Made}
use Rattle.type_terms.specs.Terms.{parts, Each}
use Rattle.type_terms.specs.Depth.{IsBelow}
use Rattle.type_terms.proofs.Histories.{nodes-view, sound-made, state-made, popped, view-popped}
use Rattle.type_terms.proofs.store.Store.add.Goals as goal
use Rattle.type_terms.proofs.store.Store.add.Goals.{in-Ok, in-Err}

pub invariant_of-self-in-Ok : goal.invariant_of-self-in-Ok
invariant_of-self-in-Ok c =
    sound-made c.self.inside.nodes.items c.self.inside.notes.items c.self.inside.trail.items c.push.new.self.items c.push-2.new.self.items (End c.args.shape)
    c.in_ok-push.ensures.items c.in-Ok.ensures.items c.self.invariant (omega arith)
    (subst (λ (ns : List Node). Each (IsBelow (length ns)) (parts c.args.shape))
    (nodes-view c.self.inside.nodes.items c.self.inside.notes.items c.self.inside.trail.items c.args.self.now c.self.view_is) c.requires)

pub returns-clause-place : goal.returns-clause-place
returns-clause-place c =
    let e = nodes-view c.self.inside.nodes.items c.self.inside.notes.items c.self.inside.trail.items c.args.self.now c.self.view_is in
    elim c.match-push.branch [
      | in-Ok w ↦ rw w.result-is (rw e (omega arith))
      | in-Err w ↦ rw w.result-is tt
    ]

pub returns-clause-state : goal.returns-clause-state
returns-clause-state c = elim c.match-push.branch [
  | in-Ok w ↦ rw w.result-is (w.self-is ∙
      state-made c.self.inside.nodes.items c.self.inside.notes.items c.self.inside.trail.items c.push.new.self.items c.push-2.new.self.items (End c.args.shape) c.args.self.now
      c.self.view_is c.in_ok-push.ensures.items w.in-Ok.ensures.items)
  | in-Err w ↦ rw w.result-is tt
]

pub returns-clause-refused : goal.returns-clause-refused
returns-clause-refused c = elim c.match-push.branch [
  | in-Ok w ↦ rw w.result-is tt
  | in-Err w ↦ rw w.result-is (w.self-is ∙
      view-popped c.self.inside.nodes.items c.push-2.new.self.items c.self.inside.notes.items c.self.inside.trail.items w.pop.new.self.items c.args.self.now c.self.view_is
      w.in-Err.ensures.items
      (popped c.push.new.self.items w.pop.new.self.items c.self.inside.trail.items Made w.pop.result c.in_ok-push.ensures.items w.pop.ensures.items (λ lt. w.pop.ensures.variant.1 (omega (arith, lt)))))
]
