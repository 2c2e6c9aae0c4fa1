use Rattle.std.proofs.Common.{◌≡◌, max, drop}
use Rattle.cell_rows.specs.Flows.{most}
use Rattle.cell_rows.proofs.flows.most.Given as goal

-- with the items that are left it is the greatest of all
abbrev pub invariant-loop-item : goal.invariant-loop-item
invariant-loop-item l = max l.greatest (most l.measure (drop l.item-index l.items)) ≡ most l.measure l.items
