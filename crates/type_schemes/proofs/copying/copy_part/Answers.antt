use Rattle.type_conditions.proofs.Composing.{if_ok-map}
use Rattle.type_schemes.proofs.PartsCopied.{rest-copied, rigid-copied, shaped-copied}
use Rattle.type_schemes.proofs.copying.copy_part.Goals as goal

pub returns-in_ok-tail-in-Rest : goal.returns-in_ok-tail-in-Rest
returns-in_ok-tail-in-Rest c =
    if_ok-map c.copy_tail.result _ _ (λ e r. rest-copied c.args.conditions.now c.make_rest.new.self c.copy_tail.new.conditions c.args.table.now c.in_ok-tail-in-Rest.tail c.args.part.now e c.in-Rest.is c.in_ok-tail-in-Rest.ensures r) c.copy_tail.ensures

pub returns-in_ok-tail-in-Rigid : goal.returns-in_ok-tail-in-Rigid
returns-in_ok-tail-in-Rigid c =
    if_ok-map c.copy_tail-in-Rigid.result _ _ (λ e r. rigid-copied c.args.conditions.now c.make_rigid_rest.new.self c.copy_tail-in-Rigid.new.conditions c.args.table.now c.in-Rigid.number c.in_ok-tail-in-Rigid.tail c.args.part.now e c.in-Rigid.is c.in_ok-tail-in-Rigid.ensures r) c.copy_tail-in-Rigid.ensures

pub returns-in_ok-at-in-Shaped : goal.returns-in_ok-at-in-Shaped
returns-in_ok-at-in-Shaped c =
    shaped-copied c.args.conditions.now c.copy_shape.new.conditions c.args.table.now _ c.args.part.now _ c.in-Shaped.is c.in_ok-at-in-Shaped.ensures.adds c.in_ok-at-in-Shaped.ensures.tails
