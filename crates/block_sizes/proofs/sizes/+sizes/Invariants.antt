use Rattle.std.proofs.Common.{◌≡◌, map, take}
use Rattle.block_sizes.specs.BlockSizes.{earlier, earliest, large_expr, large_set, large_declaration}
use Rattle.block_sizes.proofs.sizes.+sizes.Given as goal

-- the least of those so far
abbrev pub invariant-large_exprs-loop-tree : goal.invariant-large_exprs-loop-tree
invariant-large_exprs-loop-tree l = l.found ≡ earliest (map large_expr (take l.tree-index l.trees))

abbrev pub invariant-large_sets-loop-set : goal.invariant-large_sets-loop-set
invariant-large_sets-loop-set l = l.found ≡ earliest (map large_set (take l.set-index l.sets))

abbrev pub invariant-large_guards-loop-condition : goal.invariant-large_guards-loop-condition
invariant-large_guards-loop-condition l =
    l.found ≡ earliest (map (λ branch. earlier (large_expr branch.0) (large_expr branch.1)) (take l.condition-index l.branches))

abbrev pub invariant-large_branches-loop-chosen : goal.invariant-large_branches-loop-chosen
invariant-large_branches-loop-chosen l = l.found ≡ earliest (map (λ branch. large_expr branch.1) (take l.chosen-index l.branches))

abbrev pub invariant-large_declarations-loop-declaration : goal.invariant-large_declarations-loop-declaration
invariant-large_declarations-loop-declaration l = l.found ≡ earliest (map large_declaration (take l.declaration-index l.declarations))
