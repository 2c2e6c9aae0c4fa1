use Rattle.std.proofs.Common.{◌≡◌, map, take}
use Rattle.core_names.specs.Binding.{names_of}
use Rattle.core_trees.specs.PatternReading.{pattern_of}
use Rattle.plain_form.specs.PlainForm.{plain_pattern}
use Rattle.core_parts.proofs.patterns.+patterns.Given as goal

abbrev pub invariant-plain_patterns-loop-pattern : goal.invariant-plain_patterns-loop-pattern
invariant-plain_patterns-loop-pattern l = map pattern_of l.made ≡ map (plain_pattern (names_of l.of)) (take l.pattern-index l.patterns)
