use Rattle.std.proofs.Common.{◌≡◌, length}
use Rattle.type_instances.specs.Choosing as choosing
use Rattle.type_instances.proofs.table.is_known.Given as goal

abbrev pub invariant-loop-left : goal.invariant-loop-left
invariant-loop-left l = choosing.is_known l.left l.name ≡ choosing.is_known l.table l.name

abbrev pub decreases-loop-left : goal.decreases-loop-left
decreases-loop-left l = length l.left
