use Rattle.std.proofs.Common.{sym, subst, Bool}
use Rattle.type_instances.specs.Choosing.{AddsVariable}
use Rattle.type_instances.proofs.Adding.{open-added, closed-added}
use Rattle.type_instances.proofs.table.add_variable.Goals as goal

pub returns-in_ok-push : goal.returns-in_ok-push
returns-in_ok-push c =
    subst (λ (b : Bool). AddsVariable c.args.conditions.now c.make_row.new.self c.args.name.now b c.args.table.now c.push.new.self) (sym c.if-before.true)
    (open-added c.args.conditions.now c.make_rest.new.self c.make_row.new.self _ _ _ _ _ _ _ c.in_ok-name.ensures c.new.ensures c.in_ok-tail.ensures c.in_ok-at.ensures.adds c.in_ok-at.ensures.tails c.in_ok-push.ensures.ok)

pub returns-in_ok-push-2 : goal.returns-in_ok-push-2
returns-in_ok-push-2 c =
    subst (λ (b : Bool). AddsVariable c.args.conditions.now c.new_type.new.conditions c.args.name.now b c.args.table.now c.push-else-before.new.self) (sym c.if-before.false)
    (closed-added c.args.conditions.now c.new_type.new.conditions _ _ _ _ _ c.in_ok-name.ensures (rw c.bytes.ensures at c.in_ok-at-2.ensures.adds) c.in_ok-at-2.ensures.tails c.in_ok-push-2.ensures.ok)
