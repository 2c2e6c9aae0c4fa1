use Rattle.std.proofs.Common.{◌∙◌, refl, sym, ap}
use Rattle.plain_form.specs.Numbering.{both, pattern_binders, binders_of, definition_binders}
use Rattle.core_names.specs.Tables.{naming, tables_of}
use Rattle.core_names.specs.Binding as spec
use Rattle.core_names.proofs.Joining.{next, next_two}
use Rattle.core_names.proofs.Forms.{set_is, all_branches}
use Rattle.core_names.proofs.walk.+binders.Goals as goal

pub push_all-loop-tree-preserved : goal.push_all-loop-tree-preserved
push_all-loop-tree-preserved n c =
    next (binders_of (naming (tables_of c.args.names.now))) c.args.trees.now c.loop-tree.tree-index c.tree-item.result _ _ _ c.loop-tree-test.true c.tree-item.is c.loop-tree.invariant c.in_ok-push_expr.ensures

pub push_sets-loop-set-preserved : goal.push_sets-loop-set-preserved
push_sets-loop-set-preserved n c =
    next (spec.set_binders (naming (tables_of c.args.names.now))) c.args.sets.now c.loop-set.set-index c.set-item.result _ _ _ c.loop-set-test.true c.set-item.is c.loop-set.invariant (c.in_ok-push_expr.ensures ∙ ap (both (spec.listed c.loop-set.out)) (sym (set_is (naming (tables_of c.args.names.now)) c.set-item.result)))

pub push_block-loop-definition-preserved : goal.push_block-loop-definition-preserved
push_block-loop-definition-preserved n c =
    next (definition_binders (naming (tables_of c.args.names.now))) c.args.definitions.now c.loop-definition.definition-index c.definition-item.result _ _ _ c.loop-definition-test.true c.definition-item.is c.loop-definition.invariant c.in_ok-push_definition.ensures

pub push_guards-loop-condition-preserved : goal.push_guards-loop-condition-preserved
push_guards-loop-condition-preserved n c =
    next_two (λ choice. both choice.0 choice.1) (λ branch. (binders_of (naming (tables_of c.args.names.now)) branch.0, binders_of (naming (tables_of c.args.names.now)) branch.1))
    (binders_of (naming (tables_of c.args.names.now)) c.loop-condition-item.result.0) (binders_of (naming (tables_of c.args.names.now)) c.loop-condition-item.result.1)
    c.args.branches.now c.loop-condition.condition-index c.loop-condition-item.result _ _ (spec.listed c.push_expr.new.out) _ c.loop-condition-test.true c.loop-condition-item.is
    refl c.loop-condition.invariant c.in_ok-push_expr.ensures c.in_ok-push_expr-2.ensures

pub push_branches-loop-pattern-preserved : goal.push_branches-loop-pattern-preserved
push_branches-loop-pattern-preserved n c =
    next_two (λ choice. both (pattern_binders choice.0) choice.1) (λ branch. (branch.0, binders_of (naming (tables_of c.args.names.now)) branch.1))
    (pattern_binders c.loop-pattern-item.result.0) (binders_of (naming (tables_of c.args.names.now)) c.loop-pattern-item.result.1)
    c.as_slice-branches.result.now c.loop-pattern.pattern-index c.loop-pattern-item.result _ _ (spec.listed c.push_pattern.new.out) _ c.loop-pattern-test.true c.loop-pattern-item.is
    refl c.loop-pattern.invariant c.in_ok-push_pattern.ensures c.in_ok-push_expr.ensures

pub push_branches-returns : goal.push_branches-returns
push_branches-returns n c =
    all_branches (naming (tables_of c.args.names.now)) c.args.tree.now c.in-Case.at c.in-Case.scrutinee c.in-Case.branches c.as_slice-branches.result.now c.loop-pattern.pattern-index _ _ c.in-Case.is c.as_slice-branches.ensures c.loop-pattern-test.false c.loop-pattern.invariant
