use Rattle.std.proofs.Common.{◌≤◌, map, take}
use Rattle.tree_nesting.specs.Nesting.{around, pattern_nesting}
use Rattle.tree_nesting.proofs.nesting.+patterns.Given as goal

-- those so far nest within the limit
abbrev pub invariant-patterns_nest_below-loop-tree : goal.invariant-patterns_nest_below-loop-tree
invariant-patterns_nest_below-loop-tree l = around (map pattern_nesting (take l.tree-index l.trees)) ≤ l.limit
