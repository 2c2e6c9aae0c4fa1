use Rattle.std.proofs.Common.{◌<◌, List, length, subst, arith}
use Rattle.type_terms.specs.declared.node.Node.{Node}
use Rattle.type_terms.proofs.Histories.{nodes-view, node-read}
use Rattle.type_terms.proofs.store.Store.node.Goals as goal

pub index-requires : goal.index-requires
index-requires c =
    let h =
    subst (λ (ns : List Node). c.args.at < length ns)
    (nodes-view c.self.inside.nodes.items c.self.inside.notes.items c.self.inside.trail.items c.args.self.now c.self.view_is) c.requires in
    omega (arith, h)

pub returns-clause-node : goal.returns-clause-node
returns-clause-node c =
    node-read c.self.inside.nodes.items c.args.at c.index.result.now c.self.inside.notes.items c.self.inside.trail.items c.args.self.now c.self.view_is c.requires c.index.ensures
