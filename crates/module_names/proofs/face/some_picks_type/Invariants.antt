use Rattle.std.proofs.Common.{◌≡◌, false, take}
use Rattle.module_names.specs.Faces as spec
use Rattle.module_names.proofs.face.some_picks_type.Given as goal

abbrev pub invariant-loop-item : goal.invariant-loop-item
invariant-loop-item l = spec.some_picks_type (take l.item-index l.items) l.name ≡ false
