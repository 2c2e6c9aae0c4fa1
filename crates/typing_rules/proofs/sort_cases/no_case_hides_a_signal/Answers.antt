use Rattle.typing_rules.proofs.Derivations.{taken_signal}
use Rattle.typing_rules.proofs.sort_cases.no_case_hides_a_signal.Goals as goal

pub returns-clause-kept : goal.returns-clause-kept
returns-clause-kept c = taken_signal
