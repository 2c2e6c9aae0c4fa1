use Rattle.typing_rules.proofs.Derivations.{own_surroundings}
use Rattle.typing_rules.proofs.let_cases.definitions_keep_their_surroundings.Goals as goal

pub returns-clause-own : goal.returns-clause-own
returns-clause-own c = own_surroundings
