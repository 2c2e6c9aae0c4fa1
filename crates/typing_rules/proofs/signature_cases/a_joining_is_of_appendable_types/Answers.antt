use Rattle.typing_rules.proofs.Derivations.{join_lists, join_texts}
use Rattle.typing_rules.proofs.signature_cases.a_joining_is_of_appendable_types.Goals as goal

pub returns-clause-list : goal.returns-clause-list
returns-clause-list c = join_lists _

pub returns-clause-text : goal.returns-clause-text
returns-clause-text c = join_texts
