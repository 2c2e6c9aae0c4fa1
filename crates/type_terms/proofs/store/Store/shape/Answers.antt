use Rattle.std.proofs.Common.{◌∙◌, sym, arith}
use Rattle.type_terms.proofs.Sound.{weight-parts}
use Rattle.type_terms.proofs.store.Store.shape.Goals as goal

pub returns-clause-lighter : goal.returns-clause-lighter
returns-clause-lighter c =
    let e = weight-parts c.args.self.now c.find.result c.in-End.shape c.node.ensures.sound (sym c.node.ensures.node ∙ c.in-End.is) in
    omega (arith, e, c.find.ensures.lighter)
