use Rattle.std.proofs.Common.{◌≡◌, ◌++◌, map, take}
use Rattle.module_names.specs.Named as spec
use Rattle.module_names.proofs.whole.push_of_import.Given as goal

abbrev pub invariant-loop-face : goal.invariant-loop-face
invariant-loop-face l = l.out ≡ l.fn.out ++ spec.of_import (take l.face-index l.faces) l.import
