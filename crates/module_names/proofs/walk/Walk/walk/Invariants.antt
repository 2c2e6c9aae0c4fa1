use Rattle.std.proofs.Common.{◌≡◌, take}
use Rattle.module_names.specs.Lookup.{scope_of}
use Rattle.module_names.specs.Walks as spec
use Rattle.module_names.proofs.walk.Walk.walk.Given as goal

abbrev pub invariant-loop-step : goal.invariant-loop-step
invariant-loop-step l = l.self ≡ spec.walked (scope_of l.scope) l.fn.self (take l.step-index l.steps)
