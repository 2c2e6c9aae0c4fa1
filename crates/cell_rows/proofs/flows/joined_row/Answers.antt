use Rattle.cell_rows.specs.Flows.{ordered, row_of}
use Rattle.cell_rows.proofs.Steps.{taken}
use Rattle.cell_rows.proofs.flows.joined_row.Goals as goal

pub loop-at-preserved : goal.loop-at-preserved
loop-at-preserved c =
    taken (row_of c.args.y) (ordered c.args.backwards c.args.items.now) c.loop-at.at c.item_at.result.now c.loop-at.row.items c.push_row.new.out.items
    c.loop-at.invariant c.item_at.ensures c.in_ok-push_row.ensures
