use Rattle.std.proofs.Common.{◌≡◌, ◌++◌, map, take}
use Rattle.module_names.specs.Named as spec
use Rattle.module_names.proofs.whole.push_of_imports.Given as goal

abbrev pub invariant-loop-import : goal.invariant-loop-import
invariant-loop-import l = l.out ≡ l.fn.out ++ spec.of_imports l.faces (take l.import-index l.imports)
