use Rattle.elm_typing.proofs.RowAlgebra.{extended-extended, extended-injective, exchange, ends_apart}
use Rattle.elm_typing.proofs.row_laws.fields_of_different_labels_commute.Goals as goal

pub returns-clause-commute : goal.returns-clause-commute
returns-clause-commute c = extended-extended

pub returns-clause-injective : goal.returns-clause-injective
returns-clause-injective c = extended-injective

pub returns-clause-exchange : goal.returns-clause-exchange
returns-clause-exchange c = exchange

pub returns-clause-ends : goal.returns-clause-ends
returns-clause-ends c = ends_apart
