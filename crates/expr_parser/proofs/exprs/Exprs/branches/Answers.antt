use Rattle.std.proofs.Common.{rules}
use Rattle.expr_grammar.specs.ExprReader as m
use Rattle.expr_grammar.proofs.Takes.{branch_takes}
use Rattle.expr_parser.proofs.exprs.Exprs.branches.Goals as goal

pub block-requires : goal.block-requires
block-requires g c =
    (m.branch (m.below c.args.self.now.depth), record { callable = λ old. search rules; reads = λ old new r post. search rules; takes = branch_takes c.args.self.now.depth })

pub returns : goal.returns
returns g c =
    c.block.ensures (m.branch (m.below c.args.self.now.depth))
    (record { callable = λ old. search rules; reads = λ old new r post. search rules; takes = branch_takes c.args.self.now.depth })
