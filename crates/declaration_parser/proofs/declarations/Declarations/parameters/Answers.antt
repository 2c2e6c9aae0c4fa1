use Rattle.std.proofs.Common.{rules}
use Rattle.expr_grammar.specs.ExprReader as m
use Rattle.module_grammar.proofs.DeclarationReadings.{parameter_takes}
use Rattle.declaration_parser.proofs.declarations.Declarations.parameters.Goals as goal

pub many-requires : goal.many-requires
many-requires c =
    (m.parameter (m.below c.args.self.now.depth), record { callable = λ old. search rules; reads = λ old new r post. search rules; takes = parameter_takes c.args.self.now.depth })

pub returns : goal.returns
returns c =
    c.many.ensures (m.parameter (m.below c.args.self.now.depth))
    (record { callable = λ old. search rules; reads = λ old new r post. search rules; takes = parameter_takes c.args.self.now.depth })
