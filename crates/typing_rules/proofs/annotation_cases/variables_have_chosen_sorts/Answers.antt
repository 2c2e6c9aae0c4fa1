use Rattle.typing_rules.proofs.Annotated.{constant}
use Rattle.typing_rules.proofs.annotation_cases.variables_have_chosen_sorts.Goals as goal

pub returns-clause-constant : goal.returns-clause-constant
returns-clause-constant c = constant
