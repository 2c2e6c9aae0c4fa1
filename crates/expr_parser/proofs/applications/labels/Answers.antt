use Rattle.std.proofs.Common.{rules}
use Rattle.grammar.specs.declared.terminal.Terminal.TheVariants as k
use Rattle.grammar.specs.Spelling.{label_of}
use Rattle.grammar.specs.Reader.{spelled}
use Rattle.expr_grammar.proofs.Takes.{access_takes}
use Rattle.expr_parser.proofs.applications.labels.Goals as goal

pub many-requires : goal.many-requires
many-requires c =
    (spelled k.Access label_of, record { callable = λ old. search rules; reads = λ old new r post. search rules; takes = access_takes })

pub returns : goal.returns
returns c =
    c.many.ensures (spelled k.Access label_of)
    (record { callable = λ old. search rules; reads = λ old new r post. search rules; takes = access_takes })
