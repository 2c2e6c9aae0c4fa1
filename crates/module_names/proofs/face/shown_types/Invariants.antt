use Rattle.std.proofs.Common.{◌≡◌, take}
use Rattle.module_names.specs.Faces as spec
use Rattle.module_names.proofs.face.shown_types.Given as goal

abbrev pub invariant-loop-spot : goal.invariant-loop-spot
invariant-loop-spot l = l.shown ≡ spec.shown_types l.exposes (take l.spot-index l.found)
