use Rattle.std.proofs.Common.{rules}
use Rattle.expr_grammar.specs.ExprReader as m
use Rattle.expr_grammar.proofs.Takes.{atom_takes}
use Rattle.expr_parser.proofs.exprs.Exprs.arguments.Goals as goal

pub many-requires : goal.many-requires
many-requires g c =
    (m.atom (m.below c.args.self.now.depth), record { callable = λ old. search rules; reads = λ old new r post. search rules; takes = atom_takes c.args.self.now.depth })

pub returns : goal.returns
returns g c =
    c.many.ensures (m.atom (m.below c.args.self.now.depth))
    (record { callable = λ old. search rules; reads = λ old new r post. search rules; takes = atom_takes c.args.self.now.depth })
