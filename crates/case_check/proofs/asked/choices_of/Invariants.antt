use Rattle.std.proofs.Common.{◌≡◌, take}
use Rattle.case_check.specs.Asked as spec
use Rattle.case_check.proofs.asked.choices_of.Given as goal

abbrev pub invariant-loop-constructor : goal.invariant-loop-constructor
invariant-loop-constructor l = l.found ≡ spec.choices_of (take l.constructor-index l.constructors)
