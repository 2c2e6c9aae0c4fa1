use Rattle.cell_rows.proofs.Steps.{no_row}
use Rattle.cell_rows.proofs.flows.push_row.Goals as goal

pub returns-in-None : goal.returns-in-None
returns-in-None c = no_row c.args.item.now c.args.y c.args.out.now.items c.if-y-item.false c.in-None.ensures.value
