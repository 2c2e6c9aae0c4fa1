use Rattle.std.proofs.Common.{◌≡◌, ◌++◌, take}
use Rattle.type_names.specs.Answers as spec
use Rattle.type_names.proofs.offers.push_own.Given as goal

abbrev pub invariant-loop-ty : goal.invariant-loop-ty
invariant-loop-ty l = l.out ≡ l.fn.out ++ spec.own (take l.ty-index l.types) l.«module» l.name
