use Rattle.session_file.proofs.Few.{few_inputs}
use Rattle.session_file.proofs.laws.events_use_few_inputs.Goals as goal

pub returns : goal.returns
returns c = few_inputs
