use Rattle.written_sorts.proofs.Least.{further_forced, forced_decide}
use Rattle.written_sorts.proofs.laws.forced_variables_decide.Goals as goal

pub returns : goal.returns
returns c = record {
  further = further_forced;
  decide = forced_decide;
}
