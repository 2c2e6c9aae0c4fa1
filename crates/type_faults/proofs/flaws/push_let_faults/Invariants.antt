use Rattle.std.proofs.Common.{◌≡◌, ◌++◌, take}
use Rattle.type_names.specs.Answers.{places_of}
use Rattle.type_faults.specs.Flaws as spec
use Rattle.type_faults.proofs.flaws.push_let_faults.Given as goal

abbrev pub invariant-loop-annotation : goal.invariant-loop-annotation
invariant-loop-annotation l = l.out ≡ l.fn.out ++ spec.let_faults (places_of l.scope) (take l.annotation-index l.annotations)
