use Rattle.std.proofs.Common.{◌∙◌, sym}
use Rattle.type_instances.proofs.Adding.{item-known, item-added, choosing-serves, take_past}
use Rattle.type_instances.proofs.table.choose.Goals as goal
use Rattle.type_instances.proofs.table.choose.Goals.{then-not-is_known+in_ok-add_variable, else-not-is_known}

pub loop-used-preserved : goal.loop-used-preserved
loop-used-preserved c = elim c.if-not-is_known.branch [
  | then-not-is_known+in_ok-add_variable w ↦
      let before = rw w.bytes-then-not-is_known.ensures at w.is_before-before.ensures in
      item-added c.args.uses.now c.loop-used.used-index c.used-item.result _ _ w.add_variable.new.conditions _ _ w.add_variable.new.table _ _
      c.loop-used-test.true c.used-item.is before w.conditions-is w.table-is c.loop-used.invariant w.in_ok-add_variable.ensures
  | else-not-is_known w ↦
      let known = rw c.bytes.ensures at (rw c.as_slice.ensures at c.is_known.ensures) in
      item-known c.args.uses.now c.loop-used.used-index c.used-item.result _ _ _ _ _
      c.loop-used-test.true c.used-item.is (sym known ∙ w.if-not-is_known.false) w.conditions-is w.table-is c.loop-used.invariant
]

pub returns-clause-serves : goal.returns-clause-serves
returns-clause-serves c = choosing-serves _ _ _ _ _ (take_past c.args.uses.now c.loop-used.used-index c.loop-used-test.false) c.loop-used.invariant
