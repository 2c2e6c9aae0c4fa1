use Rattle.std.proofs.Common.{rules, [], ◌∷◌, ◌++◌, ◌∙◌, ap}
use Rattle.grammar.specs.declared.terminal.Terminal.TheVariants as k
use Rattle.expr_grammar.specs.ExprReader as m
use Rattle.expr_grammar.proofs.Takes.{behind_takes}
use Rattle.expr_parser.proofs.Fronts.{from_front}
use Rattle.expr_parser.proofs.exprs.Exprs.parts_from.Goals as goal

pub many_more-requires : goal.many_more-requires
many_more-requires g c =
    (m.behind (m.below c.args.self.now.depth) k.Comma, record { callable = λ old. search rules; reads = λ old new r post. search rules; takes = behind_takes c.args.self.now.depth k.Comma })

pub returns : goal.returns
returns g c =
    from_front _ (c.args.first ∷ []) (m.more (m.below c.args.self.now.depth) c.args.tokens.now) _ _
    (c.in_ok-push.ensures.ok ∙ ap (λ f. f ++ c.args.first ∷ []) c.new-found.ensures)
    (c.many_more.ensures (m.behind (m.below c.args.self.now.depth) k.Comma) (record { callable = λ old. search rules; reads = λ old new r post. search rules; takes = behind_takes c.args.self.now.depth k.Comma }))
