use Rattle.cell_rows.specs.Flows.{ordered, rows_within}
use Rattle.cell_rows.proofs.Steps.{taken}
use Rattle.cell_rows.proofs.flows.pile.Goals as goal

pub loop-at-preserved : goal.loop-at-preserved
loop-at-preserved c =
    taken (rows_within c.args.width) (ordered c.args.backwards c.args.items.now) c.loop-at.at c.item_at.result.now c.loop-at.rows c.push_rows.new.rows
    c.loop-at.invariant c.item_at.ensures c.in_ok-push_rows.ensures
