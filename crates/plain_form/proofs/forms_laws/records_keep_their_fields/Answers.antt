use Rattle.plain_form.proofs.Forms.{of_extend, of_fields, of_remove, of_update}
use Rattle.plain_form.proofs.forms_laws.records_keep_their_fields.Goals as goal

pub returns-clause-fields : goal.returns-clause-fields
returns-clause-fields c = λ n at sets. of_fields n at sets

pub returns-clause-extend : goal.returns-clause-extend
returns-clause-extend c = λ n at x sets. of_extend n at x sets

pub returns-clause-update : goal.returns-clause-update
returns-clause-update c = λ n at x sets. of_update n at x sets

pub returns-clause-remove : goal.returns-clause-remove
returns-clause-remove c = λ n at x label sets. of_remove n at x label sets
