use Rattle.std.proofs.Common.{rules}
use Rattle.expr_grammar.specs.ExprReader as m
use Rattle.expr_grammar.proofs.Takes.{parameter_takes}
use Rattle.expr_parser.proofs.exprs.Exprs.some_parameters.Goals as goal

pub some-requires : goal.some-requires
some-requires g c =
    (m.parameter (m.below c.args.self.now.depth), record { callable = λ old. search rules; reads = λ old new r post. search rules; takes = parameter_takes c.args.self.now.depth })

pub returns : goal.returns
returns g c =
    c.some.ensures (m.parameter (m.below c.args.self.now.depth))
    (record { callable = λ old. search rules; reads = λ old new r post. search rules; takes = parameter_takes c.args.self.now.depth })
