use Rattle.std.proofs.Common.{◌<◌, List, length, subst, arith}
use Rattle.type_terms.specs.declared.node.Node.{Node}
use Rattle.type_terms.proofs.Histories.{nodes-view, sound-rewritten, state-rewritten}
use Rattle.type_terms.proofs.store.Store.rewrite.Goals as goal

pub index_mut-requires : goal.index_mut-requires
index_mut-requires c =
    let h =
    subst (λ (ns : List Node). c.args.at < length ns)
    (nodes-view c.self.inside.nodes.items c.self.inside.notes.items c.self.inside.trail.items c.args.self.now c.self.view_is) c.requires.inside in
    omega (arith, h)

pub invariant_of-self-2 : goal.invariant_of-self-2
invariant_of-self-2 c =
    sound-rewritten c.self.inside.nodes.items c.self.inside.notes.items c.self.inside.trail.items c.push.new.self.items c.args.at c.args.flag c.args.node c.args.self.now
    c.self.view_is c.in_ok-push.ensures.items c.self.invariant c.requires.inside c.requires.variable c.requires.sound

pub returns-clause-state : goal.returns-clause-state
returns-clause-state c =
    state-rewritten c.self.inside.nodes.items c.self.inside.notes.items c.self.inside.trail.items c.push.new.self.items c.args.at c.args.flag c.args.node c.args.self.now
    c.self.view_is c.in_ok-push.ensures.items c.requires.inside c.requires.variable
