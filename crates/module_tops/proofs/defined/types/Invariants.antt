use Rattle.std.proofs.Common.{◌≡◌, take}
use Rattle.module_tops.specs.Tops as spec
use Rattle.module_tops.proofs.defined.types.Given as goal

abbrev pub invariant-loop-declaration : goal.invariant-loop-declaration
invariant-loop-declaration l = l.found ≡ spec.types_of (take l.declaration-index l.declarations)
