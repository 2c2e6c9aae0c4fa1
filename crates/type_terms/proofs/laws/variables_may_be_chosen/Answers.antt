use Rattle.type_terms.proofs.Existence.{variables-chosen}
use Rattle.type_terms.proofs.laws.variables_may_be_chosen.Goals as goal

pub returns : goal.returns
returns c = variables-chosen
