use Rattle.typing_rules.proofs.Derivations.{kept_signal, mapped_signal}
use Rattle.typing_rules.proofs.sort_cases.no_call_hides_a_signal.Goals as goal

pub returns-clause-kept : goal.returns-clause-kept
returns-clause-kept c = kept_signal

pub returns-clause-mapped : goal.returns-clause-mapped
returns-clause-mapped c = mapped_signal
