use Rattle.signal_meaning.proofs.Stopping.{in_turn, no_more}
use Rattle.signal_meaning.proofs.signal_laws.top_values_begin_in_turn.Goals as goal

pub returns : goal.returns
returns c = record { next = in_turn; stopped = no_more }
