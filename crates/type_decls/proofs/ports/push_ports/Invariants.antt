use Rattle.std.proofs.Common.{◌≡◌, ◌++◌, length}
use Rattle.type_names.specs.Answers.{places_of}
use Rattle.decl_faults.specs.Sense.{by_table}
use Rattle.type_decls.specs.Ports as spec
use Rattle.type_decls.proofs.ports.push_ports.Given as goal

-- what is left is still to be appended
abbrev pub invariant-loop-left : goal.invariant-loop-left
invariant-loop-left l =
    l.out ++ spec.ports_in (by_table l.aliases) (places_of l.scope) l.left
    ≡ l.fn.out ++ spec.ports_in (by_table l.aliases) (places_of l.scope) l.declarations

abbrev pub decreases-loop-left : goal.decreases-loop-left
decreases-loop-left l = length l.left
