use Rattle.std.proofs.Common.{◌≡◌, ◌++◌, take}
use Rattle.module_scope.specs.Meanings as spec
use Rattle.module_scope.proofs.meanings.push_meanings.Given as goal

abbrev pub invariant-loop-used : goal.invariant-loop-used
invariant-loop-used l = l.out ≡ l.fn.out ++ spec.meanings_of l.«module» (take l.used-index l.uses)
