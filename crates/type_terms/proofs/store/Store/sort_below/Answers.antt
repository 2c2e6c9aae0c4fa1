use Rattle.std.proofs.Common.{◌<◌, List, length, subst}
use Rattle.type_terms.specs.declared.node.Node.{Node}
use Rattle.type_terms.proofs.Histories.{nodes-view, sound-noted, state-noted}
use Rattle.type_terms.proofs.store.Store.sort_below.Goals as goal

pub invariant_of-self-in-Ok : goal.invariant_of-self-in-Ok
invariant_of-self-in-Ok c =
    sound-noted c.self.inside.nodes.items c.self.inside.notes.items c.self.inside.trail.items _ _ (c.args.a, c.args.b) c.in_ok-push.ensures.items c.in-Ok.ensures.items c.self.invariant
    (subst (λ (ns : List Node). c.args.a < length ns) (nodes-view c.self.inside.nodes.items c.self.inside.notes.items c.self.inside.trail.items c.args.self.now c.self.view_is) c.requires.below)
    (subst (λ (ns : List Node). c.args.b < length ns) (nodes-view c.self.inside.nodes.items c.self.inside.notes.items c.self.inside.trail.items c.args.self.now c.self.view_is) c.requires.above)

pub returns-in-Ok-clause-state : goal.returns-in-Ok-clause-state
returns-in-Ok-clause-state c =
    state-noted c.self.inside.nodes.items c.self.inside.notes.items c.self.inside.trail.items c.push.new.self.items c.push-2.new.self.items (c.args.a, c.args.b) c.args.self.now
    c.self.view_is c.in_ok-push.ensures.items c.in-Ok.ensures.items
