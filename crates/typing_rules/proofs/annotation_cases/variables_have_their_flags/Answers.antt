use Rattle.typing_rules.proofs.Annotated.{comparable, record_kept}
use Rattle.typing_rules.proofs.annotation_cases.variables_have_their_flags.Goals as goal

pub returns-clause-comparable : goal.returns-clause-comparable
returns-clause-comparable c = comparable

pub returns-clause-record : goal.returns-clause-record
returns-clause-record c = record_kept
