use Rattle.signal_meaning.proofs.Stopping.{run_stays, good_stays, notes_stay}
use Rattle.signal_meaning.proofs.signal_laws.a_stopped_run_stays.Goals as goal

pub returns : goal.returns
returns c = record { run = run_stays; good = good_stays; notes = notes_stay }
