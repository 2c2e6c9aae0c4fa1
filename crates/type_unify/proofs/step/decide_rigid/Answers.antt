use Rattle.std.proofs.Common.{◌≡◌, true, false, refl}
use Rattle.type_unify.proofs.Deciding.{decides_left_over, decides_unlike, decides_rigid}
use Rattle.type_unify.proofs.step.decide_rigid.Goals as goal

pub returns-then-not-both_empty : goal.returns-then-not-both_empty
returns-then-not-both_empty c = λ nodes can.
    decides_left_over nodes _ _ _ _ (λ h. let e : false ≡ true = c.if-not-both_empty.ensures.1 h in cc e) c.requires.first c.requires.second can.apart

pub returns-then-not-same_tail : goal.returns-then-not-same_tail
returns-then-not-same_tail c = λ nodes can.
    decides_unlike nodes _ _ _ _ (c.if-not-both_empty.ensures.0 refl) (c.if-not-same_tail.ensures.no refl)

pub returns : goal.returns
returns c = λ nodes can.
    decides_rigid nodes _ _ _ _ (c.if-not-both_empty.ensures.0 refl) (c.if-not-same_tail.ensures.yes refl)
