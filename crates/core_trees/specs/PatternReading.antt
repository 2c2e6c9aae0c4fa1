-- The pattern of the plain form that a tree stands for.
use Rattle.std.specs.Prelude.{Some}
use Rattle.typing_rules.specs.CorePatterns.{CorePattern}
use Rattle.plain_form.specs.PlainForm.{patterns, listed}
use Rattle.core_trees.specs.declared.pattern.PatternTree.{PatternTree}
use Rattle.core_trees.specs.declared.pattern.PatternTree.TheOpen as pattern
use Rattle.core_trees.specs.declared.pattern.PatternTree.TheFolds.{fold-PatternTree}

abbrev pub pattern_step : pattern.PatternTree-F CorePattern → CorePattern
pattern_step pattern.Anything = CorePattern.Anything
pattern_step (pattern.Local number) = CorePattern.Local number
pattern_step (pattern.Literal value) = CorePattern.Literal value
pattern_step (pattern.Made of_union constructor parts) = CorePattern.Made (Some of_union) constructor (patterns parts)
pattern_step (pattern.Cons head tail) = CorePattern.Cons head tail
pattern_step (pattern.List parts) = listed parts
pattern_step (pattern.Tuple parts) = CorePattern.Tuple (patterns parts)
pattern_step (pattern.Fields labels) = CorePattern.Fields labels
pattern_step (pattern.Named inner number) = CorePattern.Named inner number

abbrev pub pattern_of : PatternTree → CorePattern
pattern_of = fold-PatternTree CorePattern pattern_step
