use Rattle.std.proofs.Common.{◌≡◌, ◌++◌, take}
use Rattle.type_names.specs.Answers as spec
use Rattle.type_names.proofs.offers.push_imported.Given as goal

abbrev pub invariant-loop-import : goal.invariant-loop-import
invariant-loop-import l = l.out ≡ l.fn.out ++ spec.imported l.types (take l.import-index l.imports) l.name
