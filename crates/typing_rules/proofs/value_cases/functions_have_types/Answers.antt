use Rattle.typing_rules.proofs.Formed.{lacking}
use Rattle.typing_rules.proofs.value_cases.functions_have_types.Goals as goal

pub returns-clause-lacking : goal.returns-clause-lacking
returns-clause-lacking c = lacking
