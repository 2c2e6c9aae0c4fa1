use Rattle.typing_rules.proofs.Derivations.{equal_at}
use Rattle.typing_rules.proofs.signature_cases.an_equality_is_of_any_type.Goals as goal

pub returns-clause-unit : goal.returns-clause-unit
returns-clause-unit c = equal_at _

pub returns-clause-function : goal.returns-clause-function
returns-clause-function c = equal_at _
