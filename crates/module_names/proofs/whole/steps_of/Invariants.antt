use Rattle.std.proofs.Common.{◌≡◌, ◌++◌, map, take}
use Rattle.module_names.specs.Named as spec
use Rattle.module_names.proofs.whole.steps_of.Given as goal

abbrev pub invariant-loop-declaration : goal.invariant-loop-declaration
invariant-loop-declaration l = l.steps ≡ spec.steps_of (take l.declaration-index l.declarations)
