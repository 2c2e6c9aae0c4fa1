use Rattle.std.proofs.Common.{take}
use Rattle.module_scope.specs.Finding.{IsFound}
use Rattle.module_scope.specs.Modules as spec
use Rattle.module_scope.proofs.whole.find_all.Given as goal

abbrev pub invariant-loop-next : goal.invariant-loop-next
invariant-loop-next l = IsFound (spec.faces_of l.modules) (take l.next-index l.modules) l.found
