use Rattle.std.proofs.Common.{sym, ap, ◌∙◌, rules}
use Rattle.elm_base.specs.declared.tree.Expr.{Expr}
use Rattle.elm_base.specs.declared.tree.Pattern.{Pattern}
use Rattle.tree_nesting.proofs.ExprNestingLaws.{guards_there, branches_there}
use Rattle.block_sizes.specs.BlockSizes.{earlier, over, large_expr, large_set, large_declaration}
use Rattle.block_sizes.proofs.SizeLaws.{of_guards, of_case, of_let, of_field, turn, ends}
use Rattle.block_sizes.proofs.sizes.+sizes.Goals as goal

pub large_exprs-loop-tree-preserved : goal.large_exprs-loop-tree-preserved
large_exprs-loop-tree-preserved t c =
    turn large_expr c.args.trees.now c.loop-tree.tree-index c.tree-item.result c.loop-tree.found c.earlier-found.result c.loop-tree-test.true c.tree-item.is c.loop-tree.invariant
    (c.earlier-found.ensures ∙ ap (earlier c.loop-tree.found) c.large_expr.ensures)

pub large_sets-loop-set-preserved : goal.large_sets-loop-set-preserved
large_sets-loop-set-preserved t c =
    turn large_set c.args.sets.now c.loop-set.set-index c.set-item.result c.loop-set.found c.earlier-found.result c.loop-set-test.true c.set-item.is c.loop-set.invariant
    (c.earlier-found.ensures ∙ ap (earlier c.loop-set.found) (c.large_expr.ensures ∙ sym (of_field c.set-item.result)))

pub large_declarations-loop-declaration-preserved : goal.large_declarations-loop-declaration-preserved
large_declarations-loop-declaration-preserved t c =
    turn large_declaration c.args.declarations.now c.loop-declaration.declaration-index c.declaration-item.result c.loop-declaration.found c.earlier-found.result c.loop-declaration-test.true
    c.declaration-item.is c.loop-declaration.invariant (c.earlier-found.ensures ∙ ap (earlier c.loop-declaration.found) c.large_declaration.ensures)

pub large_guards-loop-condition-preserved : goal.large_guards-loop-condition-preserved
large_guards-loop-condition-preserved t c =
    turn (λ (branch : Expr × Expr). earlier (large_expr branch.0) (large_expr branch.1)) c.as_slice-branches.result.now c.loop-condition.condition-index c.loop-condition-item.result
    c.loop-condition.found c.earlier-found.result c.loop-condition-test.true c.loop-condition-item.is c.loop-condition.invariant
    (c.earlier-found.ensures ∙ ap (earlier c.loop-condition.found) (c.earlier.ensures ∙ ap (λ z. earlier z c.large_expr-in-loop-condition.result) c.large_expr.ensures
    ∙ ap (λ z. earlier (large_expr c.loop-condition-item.result.0) z) c.large_expr-in-loop-condition.ensures))

pub large_guards-returns : goal.large_guards-returns
large_guards-returns t c =
    rw (c.in-Guards.is, guards_there, ← c.as_slice-branches.ensures)
    (ends (λ (branch : Expr × Expr). earlier (large_expr branch.0) (large_expr branch.1)) c.as_slice-branches.result.now c.loop-condition.condition-index c.loop-condition.found
    c.loop-condition-test.false c.loop-condition.invariant)

pub large_branches-loop-chosen-preserved : goal.large_branches-loop-chosen-preserved
large_branches-loop-chosen-preserved t c =
    turn (λ (branch : Pattern × Expr). large_expr branch.1) c.as_slice-branches.result.now c.loop-chosen.chosen-index c.loop-chosen-item.result
    c.loop-chosen.found c.earlier-found.result c.loop-chosen-test.true c.loop-chosen-item.is c.loop-chosen.invariant
    (c.earlier-found.ensures ∙ ap (earlier c.loop-chosen.found) c.large_expr.ensures)

pub large_branches-returns : goal.large_branches-returns
large_branches-returns t c =
    rw (c.in-Case.is, branches_there, ← c.as_slice-branches.ensures)
    (ends (λ (branch : Pattern × Expr). large_expr branch.1) c.as_slice-branches.result.now c.loop-chosen.chosen-index c.loop-chosen.found c.loop-chosen-test.false c.loop-chosen.invariant)

pub large_expr-returns-in-Guards : goal.large_expr-returns-in-Guards
large_expr-returns-in-Guards t c =
    let all = rw (c.in-Guards.is, guards_there) at c.large_guards.ensures in
    rw (c.in-Guards.is, of_guards) all

pub large_expr-returns-in-Case : goal.large_expr-returns-in-Case
large_expr-returns-in-Case t c =
    let all = rw (c.in-Case.is, branches_there) at c.large_branches.ensures in
    rw (c.in-Case.is, of_case)
    (c.earlier-in-Case.ensures ∙ ap (λ z. earlier z c.large_branches.result) (c.large_expr-in-Case.ensures ∙ ap large_expr c.get-in-Case.ensures)
    ∙ ap (earlier (large_expr c.in-Case.scrutinee)) all)

pub large_expr-returns-in-Let : goal.large_expr-returns-in-Let
large_expr-returns-in-Let t c = rw (c.in-Let.is, of_let) (search rules)
