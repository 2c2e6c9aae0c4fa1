use Rattle.case_check.proofs.Exact.{found_is_missing, none_is_missing}
use Rattle.case_check.proofs.laws.what_is_found_is_missing.Goals as goal

pub returns-clause-found : goal.returns-clause-found
returns-clause-found c = λ ws s e. found_is_missing ws s e

pub returns-clause-nothing : goal.returns-clause-nothing
returns-clause-nothing c = λ ws s e m. none_is_missing ws e s m
