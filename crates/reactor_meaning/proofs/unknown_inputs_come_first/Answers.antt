use Rattle.reactor_meaning.proofs.Stepping.{unknown_first}
use Rattle.reactor_meaning.proofs.unknown_inputs_come_first.Goals as goal

pub returns : goal.returns
returns c = unknown_first
