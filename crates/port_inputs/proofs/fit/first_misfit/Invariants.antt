use Rattle.std.proofs.Common.{take, All}
use Rattle.port_inputs.specs.Fit as spec
use Rattle.port_inputs.proofs.fit.first_misfit.Given as goal

-- those so far fit
abbrev pub invariant-loop-at : goal.invariant-loop-at
invariant-loop-at l = All (spec.Fits l.inputs) (take l.at l.events)
