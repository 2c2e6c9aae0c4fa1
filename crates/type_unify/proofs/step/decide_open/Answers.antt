use Rattle.std.proofs.Common.{◌≡◌, true, false, refl}
use Rattle.type_unify.specs.declared.rows.Tail.TheVariants.{Open}
use Rattle.type_unify.proofs.Deciding.{decides_never, decides_left}
use Rattle.type_unify.proofs.step.decide_open.Goals as goal

pub returns-then-x-y : goal.returns-then-x-y
returns-then-x-y c = λ nodes can.
    decides_never nodes _ _ _ _ c.if-x-y.true (λ h. let e : false ≡ true = c.if-both_empty.ensures.1 h in cc e) can.apart

pub returns-then-is_empty : goal.returns-then-is_empty
returns-then-is_empty c = λ nodes can.
    decides_left nodes _ _ c.args.x (Open c.args.y) (c.if-is_empty.ensures.0 refl) can.left_tail can.right_tail
    (λ e. let x : c.args.x ≡ c.args.y = cc e in c.if-x-y.false x) can.right_types
