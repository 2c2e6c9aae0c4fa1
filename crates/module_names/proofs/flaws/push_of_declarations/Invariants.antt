use Rattle.std.proofs.Common.{◌≡◌, ◌++◌, false, [], take}
use Rattle.module_names.specs.Flaws as spec
use Rattle.module_names.proofs.flaws.push_of_declarations.Given as goal

abbrev pub invariant-loop-declaration : goal.invariant-loop-declaration
invariant-loop-declaration l = l.out ≡ l.fn.out ++ spec.of_declarations (take l.declaration-index l.declarations)
