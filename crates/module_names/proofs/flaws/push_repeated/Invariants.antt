use Rattle.std.proofs.Common.{◌≡◌, ◌++◌, false, [], take}
use Rattle.module_names.specs.Flaws as spec
use Rattle.module_names.proofs.flaws.push_repeated.Given as goal

abbrev pub invariant-loop-at : goal.invariant-loop-at
invariant-loop-at l = l.out ≡ l.fn.out ++ spec.repeated [] (take l.at l.spots)
