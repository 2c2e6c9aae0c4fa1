use Rattle.std.proofs.Common.{◌≡◌, take}
use Rattle.core_definitions.specs.Inputs as spec
use Rattle.core_definitions.proofs.inputs.inputs_in.Given as goal

abbrev pub invariant-loop-home : goal.invariant-loop-home
invariant-loop-home l = l.inputs ≡ spec.inputs_in (take l.home-index l.modules)
