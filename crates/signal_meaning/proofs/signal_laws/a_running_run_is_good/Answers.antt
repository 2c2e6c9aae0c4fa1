use Rattle.signal_meaning.proofs.Stopping.{good_running}
use Rattle.signal_meaning.proofs.signal_laws.a_running_run_is_good.Goals as goal

pub returns : goal.returns
returns c = good_running
