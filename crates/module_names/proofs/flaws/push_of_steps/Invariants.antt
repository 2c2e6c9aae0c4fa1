use Rattle.std.proofs.Common.{◌≡◌, ◌++◌, false, [], take}
use Rattle.module_names.specs.Flaws as spec
use Rattle.module_names.proofs.flaws.push_of_steps.Given as goal

abbrev pub invariant-loop-step : goal.invariant-loop-step
invariant-loop-step l = l.out ≡ l.fn.out ++ spec.of_steps (take l.step-index l.steps)
