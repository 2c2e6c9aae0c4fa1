use Rattle.std.proofs.Common.{rules}
use Rattle.expr_grammar.specs.ExprReader as m
use Rattle.expr_grammar.proofs.Takes.{set_takes}
use Rattle.expr_parser.proofs.exprs.Exprs.sets.Goals as goal

pub separated-requires : goal.separated-requires
separated-requires g c =
    (m.set (m.below c.args.self.now.depth) c.args.symbol, record { callable = λ old. search rules; reads = λ old new r post. search rules; takes = set_takes c.args.self.now.depth c.args.symbol })

pub returns : goal.returns
returns g c =
    c.separated.ensures (m.set (m.below c.args.self.now.depth) c.args.symbol)
    (record { callable = λ old. search rules; reads = λ old new r post. search rules; takes = set_takes c.args.self.now.depth c.args.symbol })
