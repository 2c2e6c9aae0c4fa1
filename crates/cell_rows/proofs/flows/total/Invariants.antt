use Rattle.std.proofs.Common.{◌≡◌, ◌+◌, drop}
use Rattle.cell_rows.specs.Flows.{total}
use Rattle.cell_rows.proofs.flows.total.Given as goal

-- with the items that are left it is the sum of all
abbrev pub invariant-loop-item : goal.invariant-loop-item
invariant-loop-item l = l.sum + total l.measure (drop l.item-index l.items) ≡ total l.measure l.items
