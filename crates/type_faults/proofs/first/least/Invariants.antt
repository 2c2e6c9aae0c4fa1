use Rattle.std.proofs.Common.{◌≡◌, take}
use Rattle.module_scope.specs.Firsts as spec
use Rattle.type_faults.proofs.first.least.Given as goal

abbrev pub invariant-loop-other : goal.invariant-loop-other
invariant-loop-other l = l.found ≡ spec.least l.first (take l.other-index l.more)
