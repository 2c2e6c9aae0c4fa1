use Rattle.std.proofs.Common.{rules}
use Rattle.grammar.specs.declared.terminal.Terminal.TheVariants as k
use Rattle.grammar.specs.Reader.{mark}
use Rattle.expr_grammar.proofs.Takes.{comma_takes}
use Rattle.expr_parser.proofs.brackets.some_commas.Goals as goal

pub some-requires : goal.some-requires
some-requires c =
    (mark k.Comma, record { callable = λ old. search rules; reads = λ old new r post. search rules; takes = comma_takes })

pub returns : goal.returns
returns c =
    c.some.ensures (mark k.Comma)
    (record { callable = λ old. search rules; reads = λ old new r post. search rules; takes = comma_takes })
