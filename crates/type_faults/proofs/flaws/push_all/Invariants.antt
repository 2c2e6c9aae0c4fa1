use Rattle.std.proofs.Common.{◌≡◌, ◌++◌, take}
use Rattle.bit_rows.specs.Table.{bit_of}
use Rattle.type_names.specs.Answers.{places_of}
use Rattle.type_faults.specs.Flaws as spec
use Rattle.type_faults.proofs.flaws.push_all.Given as goal

abbrev pub invariant-loop-declaration : goal.invariant-loop-declaration
invariant-loop-declaration l =
    l.out ≡ l.fn.out ++ spec.faults_of_all (places_of l.scope) l.aliases (bit_of l.reached) (take l.declaration-index l.declarations)
