use Rattle.module_visits.proofs.Outcomes.{one_load}
use Rattle.module_visits.proofs.laws.one_outcome.Goals as goal

pub returns : goal.returns
returns c = one_load
