use Rattle.std.proofs.Common.{rules}
use Rattle.expr_grammar.specs.ExprReader as m
use Rattle.expr_grammar.proofs.Takes.{guard_takes}
use Rattle.expr_parser.proofs.exprs.Exprs.guards.Goals as goal

pub some-requires : goal.some-requires
some-requires g c =
    (m.guard (m.below c.args.self.now.depth), record { callable = λ old. search rules; reads = λ old new r post. search rules; takes = guard_takes c.args.self.now.depth })

pub returns : goal.returns
returns g c =
    c.some.ensures (m.guard (m.below c.args.self.now.depth))
    (record { callable = λ old. search rules; reads = λ old new r post. search rules; takes = guard_takes c.args.self.now.depth })
