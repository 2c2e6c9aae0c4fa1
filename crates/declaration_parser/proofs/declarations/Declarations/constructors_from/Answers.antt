use Rattle.std.proofs.Common.{rules, arith}
use Rattle.std.proofs.lemmas.Grind.{common_steps}
use Rattle.expr_grammar.specs.ExprReader.{below}
use Rattle.module_grammar.specs.DeclarationReader as m
use Rattle.module_grammar.proofs.DeclarationReadings.{next_constructor_takes}
use Rattle.declaration_parser.proofs.declarations.Declarations.constructors_from.Goals as goal

pub many_more-requires : goal.many_more-requires
many_more-requires c =
    (m.next_constructor (below c.args.self.now.depth), record { callable = λ old. search rules; reads = λ old new r post. search rules; takes = next_constructor_takes c.args.self.now.depth })

pub returns : goal.returns
returns c =
    let e =
    c.many_more.ensures (m.next_constructor (below c.args.self.now.depth))
    (record { callable = λ old. search rules; reads = λ old new r post. search rules; takes = next_constructor_takes c.args.self.now.depth })
    in
    first_of (search rules, grind (arith, common_steps))
