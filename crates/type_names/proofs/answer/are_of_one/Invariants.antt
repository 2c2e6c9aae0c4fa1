use Rattle.std.proofs.Common.{◌≡◌, true, take}
use Rattle.type_names.specs.Answers as spec
use Rattle.type_names.proofs.answer.are_of_one.Given as goal

abbrev pub invariant-loop-ty : goal.invariant-loop-ty
invariant-loop-ty l = spec.are_of_one l.«module» (take l.ty-index l.types) ≡ true
