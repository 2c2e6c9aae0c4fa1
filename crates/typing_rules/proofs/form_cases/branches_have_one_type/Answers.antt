use Rattle.typing_rules.proofs.Formed.{chosen, guards}
use Rattle.typing_rules.proofs.form_cases.branches_have_one_type.Goals as goal

pub returns-clause-chosen : goal.returns-clause-chosen
returns-clause-chosen c = chosen

pub returns-clause-guarded : goal.returns-clause-guarded
returns-clause-guarded c = guards
