use Rattle.std.proofs.Common.{◌≡◌, ◌++◌, take}
use Rattle.case_places.specs.Places as spec
use Rattle.case_places.proofs.parameters.push_patterns.Given as goal

abbrev pub invariant-loop-branch : goal.invariant-loop-branch
invariant-loop-branch l = l.out ≡ l.fn.out ++ spec.patterns_of (take l.branch-index l.branches)
