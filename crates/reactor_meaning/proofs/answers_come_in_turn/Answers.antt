use Rattle.reactor_meaning.proofs.Stepping.{in_turn}
use Rattle.reactor_meaning.proofs.answers_come_in_turn.Goals as goal

pub returns : goal.returns
returns c = in_turn
