use Rattle.std.proofs.Common.{◌≡◌, ◌++◌, take}
use Rattle.name_steps.specs.Steps as spec
use Rattle.name_steps.proofs.pushes.push_patterns.Given as goal

abbrev pub invariant-loop-pattern : goal.invariant-loop-pattern
invariant-loop-pattern l = l.out ≡ l.fn.out ++ spec.patterns_steps (take l.pattern-index l.patterns)
