use Rattle.std.proofs.Common.{length, ap, arith}
use Rattle.type_terms.proofs.Histories.{nodes-view}
use Rattle.type_terms.proofs.store.Store.terms.Goals as goal

pub returns : goal.returns
returns c =
    let e = ap length (nodes-view c.self.inside.nodes.items c.self.inside.notes.items c.self.inside.trail.items c.args.self.now c.self.view_is) in
    omega (arith, e, c.len.ensures)
