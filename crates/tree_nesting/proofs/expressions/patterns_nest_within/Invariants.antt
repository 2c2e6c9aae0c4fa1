use Rattle.std.proofs.Common.{◌≤◌, map, take}
use Rattle.tree_nesting.specs.Nesting.{most, pattern_nesting}
use Rattle.tree_nesting.proofs.expressions.patterns_nest_within.Given as goal

-- those so far nest within the limit
abbrev pub invariant-loop-tree : goal.invariant-loop-tree
invariant-loop-tree l = most (map pattern_nesting (take l.tree-index l.trees)) ≤ l.limit
