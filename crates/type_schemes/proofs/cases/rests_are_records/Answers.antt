use Rattle.type_schemes.proofs.Examples.{fields_have_x, int_no_record, rest_rigid, rest_not_closed}
use Rattle.type_schemes.proofs.cases.rests_are_records.Goals as goal

pub returns-clause-field : goal.returns-clause-field
returns-clause-field c = fields_have_x

pub returns-clause-no_record : goal.returns-clause-no_record
returns-clause-no_record c = int_no_record

pub returns-clause-rigid : goal.returns-clause-rigid
returns-clause-rigid c = rest_rigid

pub returns-clause-other : goal.returns-clause-other
returns-clause-other c = rest_not_closed
