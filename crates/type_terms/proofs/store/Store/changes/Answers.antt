use Rattle.std.proofs.Common.{arith}
use Rattle.type_terms.proofs.Histories.{length-view}
use Rattle.type_terms.proofs.store.Store.changes.Goals as goal

pub returns-clause-count : goal.returns-clause-count
returns-clause-count c =
    let e = length-view c.self.inside.nodes.items c.self.inside.notes.items c.self.inside.trail.items c.args.self.now c.self.view_is in
    omega (arith, e, c.len.ensures)
