use Rattle.typing_rules.proofs.Derivations.{both, read, removed_first, updated}
use Rattle.typing_rules.proofs.record_cases.the_newest_field_counts.Goals as goal

pub returns-clause-both : goal.returns-clause-both
returns-clause-both c = both

pub returns-clause-read : goal.returns-clause-read
returns-clause-read c = read

pub returns-clause-removed : goal.returns-clause-removed
returns-clause-removed c = removed_first

pub returns-clause-updated : goal.returns-clause-updated
returns-clause-updated c = updated
