use Rattle.std.proofs.Common.{◌≤◌, map, max, take}
use Rattle.tree_nesting.specs.Nesting.{around, most, pattern_nesting}
use Rattle.tree_nesting.specs.ExpressionNesting.{expr_nesting, declaration_nesting, set_nesting}
use Rattle.tree_nesting.proofs.expressions.+expressions.Given as goal

-- those so far nest within the limit
abbrev pub invariant-exprs_nest_within-loop-tree : goal.invariant-exprs_nest_within-loop-tree
invariant-exprs_nest_within-loop-tree l = most (map expr_nesting (take l.tree-index l.trees)) ≤ l.left

abbrev pub invariant-exprs_nest_below-loop-tree : goal.invariant-exprs_nest_below-loop-tree
invariant-exprs_nest_below-loop-tree l = around (map expr_nesting (take l.tree-index l.trees)) ≤ l.limit

abbrev pub invariant-sets_nest_below-loop-set : goal.invariant-sets_nest_below-loop-set
invariant-sets_nest_below-loop-set l = around (map set_nesting (take l.set-index l.sets)) ≤ l.limit

abbrev pub invariant-guards_nest_below-loop-condition : goal.invariant-guards_nest_below-loop-condition
invariant-guards_nest_below-loop-condition l =
    around (map (λ branch. max (expr_nesting branch.0) (expr_nesting branch.1)) (take l.condition-index l.branches)) ≤ l.limit

abbrev pub invariant-branches_nest_below-loop-pattern : goal.invariant-branches_nest_below-loop-pattern
invariant-branches_nest_below-loop-pattern l =
    around (map (λ branch. max (pattern_nesting branch.0) (expr_nesting branch.1)) (take l.pattern-index l.branches)) ≤ l.limit

abbrev pub invariant-declarations_nest_below-loop-declaration : goal.invariant-declarations_nest_below-loop-declaration
invariant-declarations_nest_below-loop-declaration l = around (map declaration_nesting (take l.declaration-index l.declarations)) ≤ l.limit
