use Rattle.typing_rules.proofs.Derivations.{add}
use Rattle.typing_rules.proofs.signature_cases.natives_have_types.Goals as goal

pub returns-clause-add : goal.returns-clause-add
returns-clause-add c = add
