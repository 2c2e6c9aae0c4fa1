use Rattle.elm_typing.proofs.RowMaps.{types_of-extended, types_of-extended_other, rest_of-extended, newest-extended, removed-extended}
use Rattle.elm_typing.proofs.row_laws.a_new_field_stands_in_front.Goals as goal

pub returns-clause-types : goal.returns-clause-types
returns-clause-types c = types_of-extended

pub returns-clause-other_types : goal.returns-clause-other_types
returns-clause-other_types c = types_of-extended_other

pub returns-clause-rest : goal.returns-clause-rest
returns-clause-rest c = rest_of-extended

pub returns-clause-newest : goal.returns-clause-newest
returns-clause-newest c = newest-extended

pub returns-clause-removed : goal.returns-clause-removed
returns-clause-removed c = removed-extended
