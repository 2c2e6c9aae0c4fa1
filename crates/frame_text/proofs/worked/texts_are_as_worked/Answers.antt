use Rattle.std.proofs.Common.{refl}
use Rattle.std.specs.Fmt.{digits}
use Rattle.frame_text.proofs.worked.texts_are_as_worked.Goals as goal

pub returns-clause-watched : goal.returns-clause-watched
unfolding digits
returns-clause-watched c = refl

pub returns-clause-rows : goal.returns-clause-rows
unfolding digits
returns-clause-rows c = refl

pub returns-clause-waiting : goal.returns-clause-waiting
unfolding digits
returns-clause-waiting c = refl

pub returns-clause-stopped : goal.returns-clause-stopped
unfolding digits
returns-clause-stopped c = refl

pub returns-clause-refusals : goal.returns-clause-refusals
unfolding digits
returns-clause-refusals c = (refl, refl, refl, refl, refl, refl, refl, refl, refl, refl, refl, refl)

pub returns-clause-faults : goal.returns-clause-faults
unfolding digits
returns-clause-faults c = (refl, refl)
