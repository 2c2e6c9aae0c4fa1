use Rattle.typing_rules.proofs.Derivations.{less_int, less_pair}
use Rattle.typing_rules.proofs.signature_cases.an_order_is_of_comparable_types.Goals as goal

pub returns-clause-int : goal.returns-clause-int
returns-clause-int c = less_int

pub returns-clause-pair : goal.returns-clause-pair
returns-clause-pair c = less_pair
