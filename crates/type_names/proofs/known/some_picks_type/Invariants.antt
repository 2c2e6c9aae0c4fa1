use Rattle.std.proofs.Common.{◌≡◌, false, take}
use Rattle.module_names.specs.Faces as faces
use Rattle.type_names.proofs.known.some_picks_type.Given as goal

abbrev pub invariant-loop-item : goal.invariant-loop-item
invariant-loop-item l = faces.some_picks_type (take l.item-index l.items) l.name ≡ false
