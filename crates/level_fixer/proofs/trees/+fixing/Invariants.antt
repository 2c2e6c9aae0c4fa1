use Rattle.std.proofs.Common.{◌||◌, map, length}
use Rattle.level_fixer.specs.Clashes.{declaration_clashes, expr_clashes, set_clashes}
use Rattle.level_fixer.specs.FixedTrees.{fixed_declaration, fixed_expr, fixed_set}
use Rattle.level_fixer.proofs.Waiting.{Going}
use Rattle.level_fixer.proofs.trees.+fixing.Given as goal

-- how deep the calls may still go
abbrev pub decreases-fix_inner : goal.decreases-fix_inner
decreases-fix_inner l = l.depth

abbrev pub decreases-fix_set : goal.decreases-fix_set
decreases-fix_set l = l.depth

abbrev pub decreases-fix_guard : goal.decreases-fix_guard
decreases-fix_guard l = l.depth

abbrev pub decreases-fix_branch : goal.decreases-fix_branch
decreases-fix_branch l = l.depth

abbrev pub decreases-fix_chain : goal.decreases-fix_chain
decreases-fix_chain l = l.depth

abbrev pub decreases-fix_chain_at : goal.decreases-fix_chain_at
decreases-fix_chain_at l = l.depth

abbrev pub decreases-fix_guards_at : goal.decreases-fix_guards_at
decreases-fix_guards_at l = l.depth

abbrev pub decreases-fix_case_at : goal.decreases-fix_case_at
decreases-fix_case_at l = l.depth

abbrev pub decreases-fix_expr : goal.decreases-fix_expr
decreases-fix_expr l = l.depth

abbrev pub decreases-fix_declaration : goal.decreases-fix_declaration
decreases-fix_declaration l = l.depth

abbrev pub decreases-fix_all : goal.decreases-fix_all
decreases-fix_all l = l.depth

abbrev pub decreases-fix_sets : goal.decreases-fix_sets
decreases-fix_sets l = l.depth

abbrev pub decreases-fix_guards : goal.decreases-fix_guards
decreases-fix_guards l = l.depth

abbrev pub decreases-fix_branches : goal.decreases-fix_branches
decreases-fix_branches l = l.depth

abbrev pub decreases-fix_definitions : goal.decreases-fix_definitions
decreases-fix_definitions l = l.depth

-- those done and those that wait
abbrev pub invariant-fix_all-turns : goal.invariant-fix_all-turns
invariant-fix_all-turns l = Going (map (expr_clashes l.levels.declared)) (fixed_expr l.levels.declared) l.fn.trees l.trees l.waiting

abbrev pub decreases-fix_all-turns : goal.decreases-fix_all-turns
decreases-fix_all-turns l = length l.waiting

abbrev pub invariant-fix_sets-turns : goal.invariant-fix_sets-turns
invariant-fix_sets-turns l = Going (map (set_clashes l.levels.declared)) (fixed_set l.levels.declared) l.fn.sets l.sets l.waiting

abbrev pub decreases-fix_sets-turns : goal.decreases-fix_sets-turns
decreases-fix_sets-turns l = length l.waiting

abbrev pub invariant-fix_guards-turns : goal.invariant-fix_guards-turns
invariant-fix_guards-turns l = Going (map (λ branch. expr_clashes l.levels.declared branch.0 || expr_clashes l.levels.declared branch.1)) (λ branch. (fixed_expr l.levels.declared branch.0, fixed_expr l.levels.declared branch.1)) l.fn.branches l.branches l.waiting

abbrev pub decreases-fix_guards-turns : goal.decreases-fix_guards-turns
decreases-fix_guards-turns l = length l.waiting

abbrev pub invariant-fix_branches-turns : goal.invariant-fix_branches-turns
invariant-fix_branches-turns l = Going (map (λ branch. expr_clashes l.levels.declared branch.1)) (λ branch. (branch.0, fixed_expr l.levels.declared branch.1)) l.fn.branches l.branches l.waiting

abbrev pub decreases-fix_branches-turns : goal.decreases-fix_branches-turns
decreases-fix_branches-turns l = length l.waiting

abbrev pub invariant-fix_definitions-turns : goal.invariant-fix_definitions-turns
invariant-fix_definitions-turns l = Going (map (declaration_clashes l.levels.declared)) (fixed_declaration l.levels.declared) l.fn.definitions l.definitions l.waiting

abbrev pub decreases-fix_definitions-turns : goal.decreases-fix_definitions-turns
decreases-fix_definitions-turns l = length l.waiting
