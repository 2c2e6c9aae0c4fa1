use Rattle.std.proofs.Common.{◌≡◌, ◌≤◌, length, map, take, drop}
use Rattle.elm_meaning.specs.Patterns.{pattern_of}
use Rattle.code_lower.specs.Laying as spec
use Rattle.code_lower.proofs.patterns.+patterns.Given as goal

abbrev pub invariant-lower_patterns-loop-pattern : goal.invariant-lower_patterns-loop-pattern
invariant-lower_patterns-loop-pattern l = map pattern_of l.made ≡ map spec.pattern_for (take l.pattern-index l.patterns)

abbrev pub invariant-listed-loop-count : goal.invariant-listed-loop-count
invariant-listed-loop-count l = (l.count ≤ length l.parts) × (pattern_of l.made ≡ spec.listed_for (drop l.count l.parts))

abbrev pub decreases-listed-loop-count : goal.decreases-listed-loop-count
decreases-listed-loop-count l = l.count
