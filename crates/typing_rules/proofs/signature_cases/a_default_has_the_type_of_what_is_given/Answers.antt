use Rattle.typing_rules.proofs.Derivations.{filter_map, foldp}
use Rattle.typing_rules.proofs.signature_cases.a_default_has_the_type_of_what_is_given.Goals as goal

pub returns-clause-same : goal.returns-clause-same
returns-clause-same c = filter_map

pub returns-clause-folded : goal.returns-clause-folded
returns-clause-folded c = foldp
