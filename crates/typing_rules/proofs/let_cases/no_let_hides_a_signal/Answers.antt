use Rattle.typing_rules.proofs.Derivations.{named_signal}
use Rattle.typing_rules.proofs.let_cases.no_let_hides_a_signal.Goals as goal

pub returns-clause-shown : goal.returns-clause-shown
returns-clause-shown c = named_signal
