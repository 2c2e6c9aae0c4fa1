use Rattle.std.proofs.Common.{refl}
use Rattle.session_file.proofs.worked.uses_are_as_worked.Goals as goal

pub returns-clause-uses : goal.returns-clause-uses
returns-clause-uses c = (refl, refl, λ port other one two three. refl)

pub returns-clause-places : goal.returns-clause-places
returns-clause-places c = λ port other. (refl, refl, refl)

pub returns-clause-orders : goal.returns-clause-orders
returns-clause-orders c = (refl, refl, refl, refl, refl)
