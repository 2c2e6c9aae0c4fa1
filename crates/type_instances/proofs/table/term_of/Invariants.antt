use Rattle.std.proofs.Common.{◌≡◌, length}
use Rattle.type_instances.specs.Tables as spec
use Rattle.type_instances.proofs.table.term_of.Given as goal

abbrev pub invariant-loop-left : goal.invariant-loop-left
invariant-loop-left l = spec.term_of l.left l.name ≡ spec.term_of l.table l.name

abbrev pub decreases-loop-left : goal.decreases-loop-left
decreases-loop-left l = length l.left
