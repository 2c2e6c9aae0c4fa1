use Rattle.grammar.specs.declared.terminal.Terminal.TheVariants as k
use Rattle.expr_grammar.specs.ExprReader as m
use Rattle.expr_parser.proofs.Closing.{enclosed}
use Rattle.expr_parser.proofs.exprs.Exprs.braces.Goals as goal

pub returns : goal.returns
unfolding m.braces
returns g c =
    enclosed c.in_ok-at.at (m.inside_braces (m.below c.args.self.now.depth)) k.RightBrace k.LeftBrace c.args.tokens.now _ _ _ c.in_ok-inside_braces.field-0 _ c.in_ok-at.ensures
    c.in_ok-expect.ensures c.in_ok-inside_braces.ensures c.terminated.ensures.given c.terminated.ensures.reads
