use Rattle.std.proofs.Common.{◌≡◌, ◌++◌, take}
use Rattle.module_names.specs.Lookup as spec
use Rattle.module_names.proofs.imported.push_opened.Given as goal

abbrev pub invariant-loop-import : goal.invariant-loop-import
invariant-loop-import l = l.out ≡ l.fn.out ++ spec.opened l.faces (take l.import-index l.imports) l.name
