use Rattle.std.proofs.Common.{◌≡◌, ◌++◌, map, take}
use Rattle.module_names.specs.Lookup.{scope_of}
use Rattle.module_names.specs.Walks as spec
use Rattle.module_names.proofs.walk.push_uses.Given as goal

abbrev pub invariant-loop-spot : goal.invariant-loop-spot
invariant-loop-spot l = l.out ≡ l.fn.out ++ map (spec.use_of (scope_of l.scope) l.locals) (take l.spot-index l.spots)
