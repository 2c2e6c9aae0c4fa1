use Rattle.std.proofs.Common.{rules}
use Rattle.module_grammar.specs.DeclarationReader as m
use Rattle.module_grammar.proofs.DeclarationReadings.{item_takes}
use Rattle.declaration_parser.proofs.exposing.items.Goals as goal

pub separated-requires : goal.separated-requires
separated-requires c = (m.item, record { callable = λ old. search rules; reads = λ old new r post. search rules; takes = item_takes })

pub returns : goal.returns
returns c = c.separated.ensures m.item (record { callable = λ old. search rules; reads = λ old new r post. search rules; takes = item_takes })
