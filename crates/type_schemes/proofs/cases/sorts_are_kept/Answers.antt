use Rattle.type_schemes.proofs.Examples.{signal_to_signal, signal_not_hidden, int_noted, signal_refused}
use Rattle.type_schemes.proofs.cases.sorts_are_kept.Goals as goal

pub returns-clause-signal : goal.returns-clause-signal
returns-clause-signal c = signal_to_signal

pub returns-clause-hidden : goal.returns-clause-hidden
returns-clause-hidden c = signal_not_hidden

pub returns-clause-noted : goal.returns-clause-noted
returns-clause-noted c = int_noted

pub returns-clause-refused : goal.returns-clause-refused
returns-clause-refused c = signal_refused
