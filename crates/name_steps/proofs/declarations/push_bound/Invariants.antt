use Rattle.std.proofs.Common.{◌≡◌, ◌++◌, take}
use Rattle.name_steps.specs.Steps as spec
use Rattle.name_steps.proofs.declarations.push_bound.Given as goal

abbrev pub invariant-loop-defined : goal.invariant-loop-defined
invariant-loop-defined l = l.out ≡ l.fn.out ++ spec.bound_by (take l.defined-index l.definitions)
