use Rattle.std.proofs.Common.{◌≡◌, take}
use Rattle.module_names.specs.Faces as spec
use Rattle.module_names.proofs.face.shown_tops.Given as goal

abbrev pub invariant-loop-top : goal.invariant-loop-top
invariant-loop-top l = l.shown ≡ spec.shown_tops l.exposes (take l.top-index l.found)
