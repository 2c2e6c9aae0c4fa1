use Rattle.std.proofs.Common.{◌≡◌, ◌++◌, false, [], take}
use Rattle.module_names.specs.Flaws as spec
use Rattle.module_names.proofs.flaws.push_of_items.Given as goal

abbrev pub invariant-loop-item : goal.invariant-loop-item
invariant-loop-item l = l.out ≡ l.fn.out ++ spec.of_items l.kind l.tops l.types (take l.item-index l.items)
