use Rattle.std.proofs.Common.{refl, inl, inr, ⊎_elim}
use Rattle.typing_sound.proofs.program_cases.groups_stand_one_after_the_other.Goals as goal

pub returns-clause-values : goal.returns-clause-values
returns-clause-values c = ((refl, tt), inl refl, ((refl, tt), inl refl, tt))

pub returns-clause-function : goal.returns-clause-function
returns-clause-function c = ((refl, tt), inr (tt, tt), tt)

pub returns-clause-functions : goal.returns-clause-functions
returns-clause-functions c = ((refl, (refl, tt)), inr (tt, (tt, tt)), tt)

pub returns-clause-itself : goal.returns-clause-itself
returns-clause-itself c = λ h. ⊎_elim (λ e. absurd (cc)) (λ l. absurd l.0) h.1

pub returns-clause-together : goal.returns-clause-together
returns-clause-together c = λ h. ⊎_elim (λ e. absurd e) (λ l. absurd l.0) h.1

pub returns-clause-gap : goal.returns-clause-gap
returns-clause-gap c = λ h. let e = h.0.0 in absurd (cc)

pub returns-clause-order : goal.returns-clause-order
returns-clause-order c = λ h. let e = h.0.0 in absurd (cc)

pub returns-clause-trees : goal.returns-clause-trees
returns-clause-trees c = refl
