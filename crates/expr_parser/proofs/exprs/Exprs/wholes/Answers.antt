use Rattle.std.proofs.Common.{rules, false}
use Rattle.expr_grammar.specs.ExprReader as m
use Rattle.expr_grammar.proofs.Takes.{whole_takes}
use Rattle.expr_parser.proofs.exprs.Exprs.wholes.Goals as goal

pub separated-requires : goal.separated-requires
separated-requires g c =
    (m.tree_at false c.args.self.now.depth, record { callable = λ old. search rules; reads = λ old new r post. search rules; takes = whole_takes c.args.self.now.depth })

pub returns : goal.returns
returns g c =
    c.separated.ensures (m.tree_at false c.args.self.now.depth)
    (record { callable = λ old. search rules; reads = λ old new r post. search rules; takes = whole_takes c.args.self.now.depth })
