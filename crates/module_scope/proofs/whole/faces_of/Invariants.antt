use Rattle.std.proofs.Common.{◌≡◌, take}
use Rattle.module_scope.specs.Modules as spec
use Rattle.module_scope.proofs.whole.faces_of.Given as goal

abbrev pub invariant-loop-next : goal.invariant-loop-next
invariant-loop-next l = l.faces ≡ spec.faces_of (take l.next-index l.modules)
