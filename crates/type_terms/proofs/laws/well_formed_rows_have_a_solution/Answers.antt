use Rattle.type_terms.proofs.Existence.{solution-exists}
use Rattle.type_terms.proofs.laws.well_formed_rows_have_a_solution.Goals as goal

pub returns : goal.returns
returns c = solution-exists
