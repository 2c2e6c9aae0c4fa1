use Rattle.std.proofs.Common.{map, ◌≡◌, ◌<◌, ℕ, true, false, [], max, refl, sym, ◌∙◌, rules, arith}
use Rattle.elm_base.specs.declared.tree.Expr.{Expr}
use Rattle.elm_base.specs.declared.tree.Pattern.{Pattern}
use Rattle.tree_nesting.specs.Nesting.{pattern_nesting}
use Rattle.tree_nesting.proofs.NestingLaws.{more, none}
use Rattle.tree_nesting.specs.ExpressionNesting.{expr_nesting, declaration_nesting, set_nesting, guards_of}
use Rattle.tree_nesting.proofs.ExprNestingLaws.{of_field, of_guards, of_case, guards_there, branches_there}
use Rattle.tree_nesting.proofs.MostLaws.{more_within, deeper_within, around_cons, all_within}
use Rattle.tree_nesting.proofs.expressions.+expressions.Goals as goal

pub exprs_nest_within-loop-tree-preserved : goal.exprs_nest_within-loop-tree-preserved
exprs_nest_within-loop-tree-preserved t c =
    more_within expr_nesting c.args.trees.now c.loop-tree.tree-index c.in-Some.left c.tree-item.result c.expr_nests_within.result c.loop-tree-test.true c.tree-item.is
    c.expr_nests_within.ensures.0 c.expr_nests_within.ensures.1 c.if-not-expr_nests_within.false c.loop-tree.invariant

pub exprs_nest_within-returns-then-not-expr_nests_within : goal.exprs_nest_within-returns-then-not-expr_nests_within
exprs_nest_within-returns-then-not-expr_nests_within t c = (
  λ h. cc,
  λ h. absurd (deeper_within expr_nesting c.args.trees.now c.loop-tree.tree-index c.in-Some.left c.tree-item.result c.expr_nests_within.result c.loop-tree-test.true c.tree-item.is
      c.expr_nests_within.ensures.0 c.expr_nests_within.ensures.1 c.if-not-expr_nests_within.true (omega (arith, c.in-Some.ensures))),
)

pub exprs_nest_below-loop-tree-preserved : goal.exprs_nest_below-loop-tree-preserved
exprs_nest_below-loop-tree-preserved t c =
    more expr_nesting c.args.trees.now c.loop-tree.tree-index c.args.limit c.tree-item.result c.expr_nests_below.result c.loop-tree-test.true c.tree-item.is
    c.expr_nests_below.ensures.0 c.expr_nests_below.ensures.1 c.if-not-expr_nests_below.false c.loop-tree.invariant

pub exprs_nest_below-returns-then-not-expr_nests_below : goal.exprs_nest_below-returns-then-not-expr_nests_below
exprs_nest_below-returns-then-not-expr_nests_below t c =
    none expr_nesting c.args.trees.now c.loop-tree.tree-index c.args.limit c.tree-item.result c.expr_nests_below.result c.loop-tree-test.true c.tree-item.is
    c.expr_nests_below.ensures.0 c.expr_nests_below.ensures.1 c.if-not-expr_nests_below.true

pub declarations_nest_below-loop-declaration-preserved : goal.declarations_nest_below-loop-declaration-preserved
declarations_nest_below-loop-declaration-preserved t c =
    more declaration_nesting c.args.declarations.now c.loop-declaration.declaration-index c.args.limit c.declaration-item.result c.declaration_nests_below.result
    c.loop-declaration-test.true c.declaration-item.is c.declaration_nests_below.ensures.0 c.declaration_nests_below.ensures.1 c.if-not-declaration_nests_below.false c.loop-declaration.invariant

pub declarations_nest_below-returns-then-not-declaration_nests_below : goal.declarations_nest_below-returns-then-not-declaration_nests_below
declarations_nest_below-returns-then-not-declaration_nests_below t c =
    none declaration_nesting c.args.declarations.now c.loop-declaration.declaration-index c.args.limit c.declaration-item.result c.declaration_nests_below.result
    c.loop-declaration-test.true c.declaration-item.is c.declaration_nests_below.ensures.0 c.declaration_nests_below.ensures.1 c.if-not-declaration_nests_below.true

pub sets_nest_below-loop-set-preserved : goal.sets_nest_below-loop-set-preserved
sets_nest_below-loop-set-preserved t c =
    more set_nesting c.args.sets.now c.loop-set.set-index c.args.limit c.set-item.result c.expr_nests_below.result c.loop-set-test.true c.set-item.is
    (λ h. rw (of_field c.set-item.result) (c.expr_nests_below.ensures.0 h)) (λ h. c.expr_nests_below.ensures.1 (rw (of_field c.set-item.result) at h)) c.if-not-expr_nests_below.false c.loop-set.invariant

pub sets_nest_below-returns-then-not-expr_nests_below : goal.sets_nest_below-returns-then-not-expr_nests_below
sets_nest_below-returns-then-not-expr_nests_below t c =
    none set_nesting c.args.sets.now c.loop-set.set-index c.args.limit c.set-item.result c.expr_nests_below.result c.loop-set-test.true c.set-item.is
    (λ h. rw (of_field c.set-item.result) (c.expr_nests_below.ensures.0 h)) (λ h. c.expr_nests_below.ensures.1 (rw (of_field c.set-item.result) at h)) c.if-not-expr_nests_below.true

pub guards_nest_below-returns-in_default : goal.guards_nest_below-returns-in_default
guards_nest_below-returns-in_default t c = let none_ : guards_of c.args.tree.now ≡ [] = search rules in rw none_ (λ h. omega arith, λ h. refl)

second_below : (a b limit : ℕ) → max a b < limit → b < limit
second_below a b limit h = omega arith

abbrev guard_nesting : Expr × Expr → ℕ
guard_nesting branch = max (expr_nesting branch.0) (expr_nesting branch.1)

pub guards_nest_below-loop-condition-preserved : goal.guards_nest_below-loop-condition-preserved
guards_nest_below-loop-condition-preserved t c =
    let first : expr_nesting c.loop-condition-item.result.0 < c.args.limit = c.expr_nests_below.ensures.0 c.if-not-expr_nests_below.false in
    let second : expr_nesting c.loop-condition-item.result.1 < c.args.limit = c.expr_nests_below-in-loop-condition.ensures.0 c.if-not-expr_nests_below-2.false in
    more guard_nesting c.as_slice-branches.result.now c.loop-condition.condition-index c.args.limit c.loop-condition-item.result true c.loop-condition-test.true c.loop-condition-item.is
    (λ h. omega arith) (λ h. refl) refl c.loop-condition.invariant

pub guards_nest_below-returns-then-not-expr_nests_below : goal.guards_nest_below-returns-then-not-expr_nests_below
guards_nest_below-returns-then-not-expr_nests_below t c =
    rw (c.in-Guards.is, guards_there, ← c.as_slice-branches.ensures)
    (none guard_nesting c.as_slice-branches.result.now c.loop-condition.condition-index c.args.limit c.loop-condition-item.result false c.loop-condition-test.true c.loop-condition-item.is
    (λ h. cc) (λ h. sym c.if-not-expr_nests_below.true ∙ c.expr_nests_below.ensures.1 (omega arith)) refl)

pub guards_nest_below-returns-then-not-expr_nests_below-2 : goal.guards_nest_below-returns-then-not-expr_nests_below-2
guards_nest_below-returns-then-not-expr_nests_below-2 t c =
    rw (c.in-Guards.is, guards_there, ← c.as_slice-branches.ensures)
    (none guard_nesting c.as_slice-branches.result.now c.loop-condition.condition-index c.args.limit c.loop-condition-item.result false c.loop-condition-test.true c.loop-condition-item.is
    (λ h. cc) (λ h. sym c.if-not-expr_nests_below-2.true ∙ c.expr_nests_below-in-loop-condition.ensures.1 (second_below _ _ _ h)) refl)

pub guards_nest_below-returns : goal.guards_nest_below-returns
guards_nest_below-returns t c = rw (c.in-Guards.is, guards_there, ← c.as_slice-branches.ensures) (all_within guard_nesting c.as_slice-branches.result.now c.loop-condition.condition-index c.args.limit c.loop-condition-test.false c.loop-condition.invariant)

pub expr_nests_within-returns-in-Guards : goal.expr_nests_within-returns-in-Guards
expr_nests_within-returns-in-Guards t c =
    let all = rw (c.in-Guards.is, guards_there) at c.guards_nest_below.ensures in
    rw (c.in-Guards.is, of_guards) all

abbrev branch_nesting : Pattern × Expr → ℕ
branch_nesting branch = max (pattern_nesting branch.0) (expr_nesting branch.1)

pub branches_nest_below-loop-pattern-preserved : goal.branches_nest_below-loop-pattern-preserved
branches_nest_below-loop-pattern-preserved t c =
    let first : pattern_nesting c.loop-pattern-item.result.0 < c.args.limit = c.pattern_nests_below.ensures.0 c.if-not-pattern_nests_below.false in
    let second : expr_nesting c.loop-pattern-item.result.1 < c.args.limit = c.expr_nests_below.ensures.0 c.if-not-expr_nests_below.false in
    more branch_nesting c.as_slice-branches.result.now c.loop-pattern.pattern-index c.args.limit c.loop-pattern-item.result true c.loop-pattern-test.true c.loop-pattern-item.is
    (λ h. omega arith) (λ h. refl) refl c.loop-pattern.invariant

pub branches_nest_below-returns-then-not-pattern_nests_below : goal.branches_nest_below-returns-then-not-pattern_nests_below
branches_nest_below-returns-then-not-pattern_nests_below t c =
    rw (c.in-Case.is, branches_there, ← c.as_slice-branches.ensures)
    (none branch_nesting c.as_slice-branches.result.now c.loop-pattern.pattern-index c.args.limit c.loop-pattern-item.result false c.loop-pattern-test.true c.loop-pattern-item.is
    (λ h. cc) (λ h. sym c.if-not-pattern_nests_below.true ∙ c.pattern_nests_below.ensures.1 (omega arith)) refl)

pub branches_nest_below-returns-then-not-expr_nests_below : goal.branches_nest_below-returns-then-not-expr_nests_below
branches_nest_below-returns-then-not-expr_nests_below t c =
    rw (c.in-Case.is, branches_there, ← c.as_slice-branches.ensures)
    (none branch_nesting c.as_slice-branches.result.now c.loop-pattern.pattern-index c.args.limit c.loop-pattern-item.result false c.loop-pattern-test.true c.loop-pattern-item.is
    (λ h. cc) (λ h. sym c.if-not-expr_nests_below.true ∙ c.expr_nests_below.ensures.1 (second_below _ _ _ h)) refl)

pub branches_nest_below-returns : goal.branches_nest_below-returns
branches_nest_below-returns t c = rw (c.in-Case.is, branches_there, ← c.as_slice-branches.ensures) (all_within branch_nesting c.as_slice-branches.result.now c.loop-pattern.pattern-index c.args.limit c.loop-pattern-test.false c.loop-pattern.invariant)

pub expr_nests_within-returns-then-expr_nests_below-9 : goal.expr_nests_within-returns-then-expr_nests_below-9
expr_nests_within-returns-then-expr_nests_below-9 t c =
    let all = rw (c.in-Case.is, branches_there) at c.branches_nest_below.ensures in
    let first : expr_nesting c.in-Case.scrutinee < c.args.limit = rw (← c.get-in-Case.ensures) (c.expr_nests_below-in-Case.ensures.0 c.if-expr_nests_below-9.true) in
    let both = around_cons (expr_nesting c.in-Case.scrutinee) (map branch_nesting c.in-Case.branches) c.args.limit in
    rw (c.in-Case.is, of_case) (λ h. both.0 (first, all.0 h), λ h. let parts = both.1 h in all.1 parts.1)
