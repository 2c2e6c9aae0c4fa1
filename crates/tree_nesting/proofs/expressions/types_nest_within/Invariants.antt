use Rattle.std.proofs.Common.{◌≤◌, map, take}
use Rattle.tree_nesting.specs.Nesting.{most, type_nesting}
use Rattle.tree_nesting.proofs.expressions.types_nest_within.Given as goal

-- those so far nest within the limit
abbrev pub invariant-loop-tree : goal.invariant-loop-tree
invariant-loop-tree l = most (map type_nesting (take l.tree-index l.trees)) ≤ l.limit
