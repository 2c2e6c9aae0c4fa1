use Rattle.type_schemes.specs.Copies.{term_at}
use Rattle.type_schemes.proofs.Tables.{field-inside, field-copied}
use Rattle.type_schemes.proofs.copying.fields_at.Goals as goal

pub bounds-table-part : goal.bounds-table-part
bounds-table-part c = field-inside _ c.args.fields.now _ _ c.loop-label-test.true c.loop-label-item.is c.requires

pub loop-label-preserved : goal.loop-label-preserved
loop-label-preserved c =
    field-copied (term_at c.args.table.now) c.args.fields.now c.loop-label.made c.push.new.self c.loop-label.label-index c.loop-label-item.result _ c.loop-label-test.true c.loop-label-item.is
    c.loop-label.invariant c.in_ok-copy.ensures c.in_ok-push.ensures.ok
