use Rattle.std.proofs.Common.{◌≡◌, ◌++◌, map, take}
use Rattle.name_steps.specs.Steps as spec
use Rattle.name_steps.proofs.declarations.push_all_defined.Given as goal

abbrev pub invariant-loop-declaration : goal.invariant-loop-declaration
invariant-loop-declaration l = l.out ≡ l.fn.out ++ spec.definitions_of (map spec.part_of (take l.declaration-index l.declarations))
