use Rattle.std.proofs.Common.{◌≡◌, ◌++◌, take}
use Rattle.type_names.specs.Answers.{places_of}
use Rattle.decl_faults.specs.Sense.{by_table}
use Rattle.decl_faults.specs.Ports as spec
use Rattle.decl_faults.proofs.ports.push_portless_in.Given as goal

abbrev pub invariant-loop-declaration : goal.invariant-loop-declaration
invariant-loop-declaration l =
    l.out ≡ l.fn.out ++ spec.portless_in (by_table l.aliases) (places_of l.scope) (take l.declaration-index l.declarations)
