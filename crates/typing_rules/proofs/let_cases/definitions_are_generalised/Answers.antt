use Rattle.typing_rules.proofs.Derivations.{twice}
use Rattle.typing_rules.proofs.let_cases.definitions_are_generalised.Goals as goal

pub returns-clause-named : goal.returns-clause-named
returns-clause-named c = twice
