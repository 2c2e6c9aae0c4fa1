use Rattle.std.proofs.Common.{◌≤◌, map, take}
use Rattle.tree_nesting.specs.Nesting.{most, type_nesting}
use Rattle.tree_nesting.proofs.expressions.constructors_nest_within.Given as goal

-- those so far nest within the limit
abbrev pub invariant-loop-made : goal.invariant-loop-made
invariant-loop-made l = most (map (λ made. most (map type_nesting made.arguments)) (take l.made-index l.constructors)) ≤ l.limit
