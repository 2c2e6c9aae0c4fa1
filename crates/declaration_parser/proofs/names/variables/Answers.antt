use Rattle.std.proofs.Common.{rules}
use Rattle.grammar.specs.Reader.{spot}
use Rattle.module_grammar.proofs.DeclarationReadings.{spot_takes}
use Rattle.module_grammar.specs.DeclarationReader.{variables}
use Rattle.declaration_parser.proofs.names.variables.Goals as goal

pub many-requires : goal.many-requires
many-requires c = (spot, record { callable = λ old. search rules; reads = λ old new r post. search rules; takes = spot_takes })

pub returns : goal.returns
unfolding variables
returns c = c.many.ensures spot (record { callable = λ old. search rules; reads = λ old new r post. search rules; takes = spot_takes })
