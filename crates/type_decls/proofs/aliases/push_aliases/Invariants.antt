use Rattle.std.proofs.Common.{◌≡◌, ◌++◌, take}
use Rattle.type_names.specs.Answers.{places_of}
use Rattle.decl_faults.specs.Sense.{by_table}
use Rattle.type_decls.specs.Aliases as spec
use Rattle.type_decls.proofs.aliases.push_aliases.Given as goal

abbrev pub invariant-loop-declaration : goal.invariant-loop-declaration
invariant-loop-declaration l =
    l.out ≡ l.fn.out ++ spec.aliases_in (by_table l.aliases) (places_of l.scope) (take l.declaration-index l.declarations)
