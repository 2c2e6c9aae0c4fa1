use Rattle.std.proofs.Common.{refl}
use Rattle.session_form.specs.Reader.{parts_in}
use Rattle.session_form.proofs.worked.forms_are_as_worked.Goals as goal

pub returns-clause-sheets : goal.returns-clause-sheets
unfolding parts_in
returns-clause-sheets c = (refl, refl, refl, refl, refl, refl, refl, refl)

pub returns-clause-places : goal.returns-clause-places
returns-clause-places c = (refl, refl, refl, refl, refl)
