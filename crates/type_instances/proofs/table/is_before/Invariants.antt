use Rattle.std.proofs.Common.{◌≡◌, length}
use Rattle.type_instances.specs.Choosing.{is_before}
use Rattle.type_instances.proofs.table.is_before.Given as goal

abbrev pub invariant-loop-left : goal.invariant-loop-left
invariant-loop-left l = is_before l.left l.name ≡ is_before l.uses l.name

abbrev pub decreases-loop-left : goal.decreases-loop-left
decreases-loop-left l = length l.left
