use Rattle.grammar.specs.declared.terminal.Terminal.TheVariants as k
use Rattle.expr_grammar.specs.ExprReader as m
use Rattle.expr_parser.proofs.Closing.{enclosed}
use Rattle.expr_parser.proofs.exprs.Exprs.list.Goals as goal

pub returns : goal.returns
unfolding m.list
returns g c =
    enclosed c.in_ok-at.at (m.inside_list (m.below c.args.self.now.depth)) k.RightBracket k.LeftBracket c.args.tokens.now _ _ _ c.in_ok-inside_list.field-0 _ c.in_ok-at.ensures
    c.in_ok-expect.ensures c.in_ok-inside_list.ensures c.terminated.ensures.given c.terminated.ensures.reads
