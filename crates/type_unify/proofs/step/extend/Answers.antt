use Rattle.std.proofs.Common.{◌≡◌, true, false, refl}
use Rattle.type_unify.proofs.Deciding.{decides_blocked, decides_left}
use Rattle.type_unify.proofs.step.extend.Goals as goal

pub returns-then-is_empty : goal.returns-then-is_empty
returns-then-is_empty c = λ nodes can.
    decides_left nodes _ _ c.args.at c.args.tail (c.if-is_empty.ensures.0 refl) can.left_tail can.right_tail (c.requires c.args.at) can.right_types

pub returns : goal.returns
returns c = λ nodes can.
    decides_blocked nodes _ _ c.args.at c.args.tail (λ h. let e : false ≡ true = c.if-is_empty.ensures.1 h in cc e) c.requires can.apart
