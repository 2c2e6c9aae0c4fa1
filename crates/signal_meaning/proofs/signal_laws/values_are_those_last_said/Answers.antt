use Rattle.signal_meaning.proofs.InTurn.{value_first, value_later}
use Rattle.signal_meaning.proofs.signal_laws.values_are_those_last_said.Goals as goal

pub returns : goal.returns
returns c = record { first = value_first; later = value_later }
