use Rattle.std.proofs.Common.{◌≡◌, ◌++◌, take}
use Rattle.module_names.specs.Lookup as spec
use Rattle.module_names.proofs.imported.push_given.Given as goal

abbrev pub invariant-loop-top : goal.invariant-loop-top
invariant-loop-top l = l.out ≡ l.fn.out ++ spec.given_by l.«module» (take l.top-index l.tops) l.picks l.name
