use Rattle.typing_rules.proofs.Formed.{constant, ordered}
use Rattle.typing_rules.proofs.value_cases.signals_have_the_types_of_their_nodes.Goals as goal

pub returns-clause-constant : goal.returns-clause-constant
returns-clause-constant c = constant

pub returns-clause-ordered : goal.returns-clause-ordered
returns-clause-ordered c = ordered
