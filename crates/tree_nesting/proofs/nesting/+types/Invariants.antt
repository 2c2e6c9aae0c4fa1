use Rattle.std.proofs.Common.{◌≤◌, map, take}
use Rattle.tree_nesting.specs.Nesting.{around, type_nesting}
use Rattle.tree_nesting.proofs.nesting.+types.Given as goal

-- those so far nest within the limit
abbrev pub invariant-fields_nest_below-loop-tree : goal.invariant-fields_nest_below-loop-tree
invariant-fields_nest_below-loop-tree l = around (map (λ field. type_nesting field.1) (take l.tree-index l.fields)) ≤ l.limit

abbrev pub invariant-types_nest_below-loop-tree : goal.invariant-types_nest_below-loop-tree
invariant-types_nest_below-loop-tree l = around (map type_nesting (take l.tree-index l.trees)) ≤ l.limit
