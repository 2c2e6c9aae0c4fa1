use Rattle.std.proofs.Common.{rules}
use Rattle.module_grammar.specs.DeclarationReader as m
use Rattle.module_grammar.proofs.DeclarationReadings.{upper_spot_takes}
use Rattle.declaration_parser.proofs.names.upper_spots.Goals as goal

pub separated-requires : goal.separated-requires
separated-requires c = (m.upper_spot, record { callable = λ old. search rules; reads = λ old new r post. search rules; takes = upper_spot_takes })

pub returns : goal.returns
returns c = c.separated.ensures m.upper_spot (record { callable = λ old. search rules; reads = λ old new r post. search rules; takes = upper_spot_takes })
