use Rattle.std.proofs.Common.{rules}
use Rattle.grammar.proofs.ListTurns.{takes_some}
use Rattle.grammar.specs.Reader.{spot as spot_}
use Rattle.grammar.proofs.Laws.{spot}
use Rattle.pattern_parser.proofs.patterns.spots.Goals as goal

pub separated-requires : goal.separated-requires
separated-requires c = (spot_, record { callable = λ old. search rules; reads = λ old new r post. search rules; takes = takes_some spot })

pub returns : goal.returns
returns c = c.separated.ensures spot_ (record { callable = λ old. search rules; reads = λ old new r post. search rules; takes = takes_some spot })
