use Rattle.std.proofs.Common.{◌≡◌, ◌++◌, take}
use Rattle.type_names.specs.Answers.{places_of}
use Rattle.alias_cycles.specs.Naming as spec
use Rattle.alias_cycles.proofs.naming.push_declared.Given as goal

abbrev pub invariant-loop-declaration : goal.invariant-loop-declaration
invariant-loop-declaration l =
    l.out ≡ l.fn.out ++ spec.declared (places_of l.scope) (take l.declaration-index l.declarations)
