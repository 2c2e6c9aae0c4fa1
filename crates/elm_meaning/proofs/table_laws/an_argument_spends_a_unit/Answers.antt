use Rattle.elm_meaning.proofs.Spent.{last_argument, lacking_argument}
use Rattle.elm_meaning.proofs.table_laws.an_argument_spends_a_unit.Goals as goal

pub returns : goal.returns
returns c = record { last = last_argument; lacking = lacking_argument }
