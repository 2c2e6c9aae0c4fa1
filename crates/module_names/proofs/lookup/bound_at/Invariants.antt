use Rattle.std.proofs.Common.{◌≡◌, take}
use Rattle.module_names.specs.Lookup as spec
use Rattle.module_names.proofs.lookup.bound_at.Given as goal

abbrev pub invariant-loop-spot : goal.invariant-loop-spot
invariant-loop-spot l = l.found ≡ spec.bound_at (take l.spot-index l.locals) l.name
