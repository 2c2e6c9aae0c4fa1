use Rattle.type_schemes.proofs.PartsCopied.{item-may, item-copied}
use Rattle.type_schemes.proofs.copying.copy_parts.Goals as goal

pub copy_part-requires-clause-over : goal.copy_part-requires-clause-over
copy_part-requires-clause-over c =
    rw c.as_slice.ensures (item-may c.args.conditions.now c.loop-part.conditions c.args.parts.now c.loop-part.part-index c.part-item.result c.loop-part.table c.loop-part-test.true c.part-item.is c.requires c.loop-part.invariant)

pub loop-part-preserved : goal.loop-part-preserved
loop-part-preserved c =
    let copied = rw c.as_slice.ensures at c.in_ok-copy_part.ensures in
    item-copied c.args.conditions.now c.loop-part.conditions c.copy_part.new.conditions c.args.parts.now c.loop-part.part-index c.part-item.result c.loop-part.table c.push.new.self _
    c.loop-part-test.true c.part-item.is c.requires c.loop-part.invariant copied c.in_ok-push.ensures.ok
