use Rattle.std.proofs.Common.{◌≡◌, take}
use Rattle.type_names.specs.Answers.{places_of}
use Rattle.decl_faults.specs.Sense.{by_table}
use Rattle.type_decls.specs.Unions as spec
use Rattle.type_decls.proofs.unions.types_of.Given as goal

abbrev pub invariant-loop-tree : goal.invariant-loop-tree
invariant-loop-tree l = l.types ≡ spec.types_of (by_table l.aliases) (places_of l.scope) (take l.tree-index l.written)
