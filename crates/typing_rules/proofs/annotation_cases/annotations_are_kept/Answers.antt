use Rattle.typing_rules.proofs.Annotated.{narrow, number, same}
use Rattle.typing_rules.proofs.annotation_cases.annotations_are_kept.Goals as goal

pub returns-clause-same : goal.returns-clause-same
returns-clause-same c = same

pub returns-clause-narrow : goal.returns-clause-narrow
returns-clause-narrow c = narrow

pub returns-clause-number : goal.returns-clause-number
returns-clause-number c = number
