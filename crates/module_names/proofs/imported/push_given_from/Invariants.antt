use Rattle.std.proofs.Common.{◌≡◌, ◌++◌, take}
use Rattle.module_names.specs.Lookup as spec
use Rattle.module_names.proofs.imported.push_given_from.Given as goal

abbrev pub invariant-loop-face : goal.invariant-loop-face
invariant-loop-face l = l.out ≡ l.fn.out ++ spec.given_from (take l.face-index l.faces) l.«module» l.picks l.name
