use Rattle.typing_rules.proofs.Formed.{called}
use Rattle.typing_rules.proofs.form_cases.names_and_calls_have_types.Goals as goal

pub returns-clause-called : goal.returns-clause-called
returns-clause-called c = called
