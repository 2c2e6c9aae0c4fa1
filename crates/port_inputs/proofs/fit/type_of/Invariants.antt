use Rattle.std.proofs.Common.{◌≡◌, drop}
use Rattle.port_inputs.specs.Fit as spec
use Rattle.port_inputs.proofs.fit.type_of.Given as goal

-- those that are left decide
abbrev pub invariant-loop-own : goal.invariant-loop-own
invariant-loop-own l = spec.type_of l.inputs l.name ≡ spec.type_of (drop l.own-index l.inputs) l.name
