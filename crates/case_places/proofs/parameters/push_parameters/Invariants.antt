use Rattle.std.proofs.Common.{◌≡◌, ◌++◌, map, take}
use Rattle.case_places.specs.Places as spec
use Rattle.case_places.proofs.parameters.push_parameters.Given as goal

abbrev pub invariant-loop-pattern : goal.invariant-loop-pattern
invariant-loop-pattern l = l.out ≡ l.fn.out ++ map spec.parameter (take l.pattern-index l.patterns)
