use Rattle.type_terms.proofs.Existence.{variables-free}
use Rattle.type_terms.proofs.laws.unflagged_variables_are_free.Goals as goal

pub returns : goal.returns
returns c = variables-free
