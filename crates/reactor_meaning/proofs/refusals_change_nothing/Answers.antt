use Rattle.reactor_meaning.proofs.Stepping.{refusal_keeps}
use Rattle.reactor_meaning.proofs.refusals_change_nothing.Goals as goal

pub returns : goal.returns
returns c = refusal_keeps
