use Rattle.std.proofs.Common.{◌≡◌, ◌∙◌, IfOk, ◌∷◌, [], ap, sym, subst, refl, rules}
use Rattle.elm_meaning.specs.Lowered.{places_of_branches}
use Rattle.elm_meaning.specs.Patterns.{pattern_of}
use Rattle.code_lower.specs.Laying as spec
use Rattle.code_lower.specs.Laying.{Lowers, applied_for, built_for, choice_for, tree_for}
use Rattle.code_lower.proofs.Laying.{nothing_yet, relabelled}
use Rattle.code_lower.proofs.Closing.{on_ok, renamed}
use Rattle.code_lower.proofs.Outs.{out_case}
use Rattle.code_lower.proofs.Turns as turns
use Rattle.code_lower.proofs.Shapes as shapes
use Rattle.code_lower.proofs.Wholes as wholes
use Rattle.code_lower.proofs.walk.+lower.Goals as goal

pub push_applied-returns-in_ok-no-in-If : goal.push_applied-returns-in_ok-no-in-If
push_applied-returns-in_ok-no-in-If t c =
    on_ok c.push_term.result _ (λ at. Lowers c.args.out.now c.push_term.new.out (at ∷ []) (applied_for c.args.tree.now ∷ []))
    (λ at pushed. shapes.if_form _ _ _ _ _ _ _ _ at c.args.tree.now _ _ _ c.in-If.is c.in_ok-condition-in-If.ensures c.in_ok-yes-in-If.ensures c.in_ok-no-in-If.ensures pushed)
    c.push_term.ensures

pub push_applied-returns-in_ok-high-in-Range : goal.push_applied-returns-in_ok-high-in-Range
push_applied-returns-in_ok-high-in-Range t c =
    on_ok c.push_term-in-Range.result _ (λ at. Lowers c.args.out.now c.push_term-in-Range.new.out (at ∷ []) (applied_for c.args.tree.now ∷ []))
    (λ at pushed. shapes.range_form _ _ _ _ _ _ at c.args.tree.now _ _ c.in-Range.is c.in_ok-low-in-Range.ensures c.in_ok-high-in-Range.ensures pushed)
    c.push_term-in-Range.ensures

pub push_applied-returns-in_ok-label-in-Remove : goal.push_applied-returns-in_ok-label-in-Remove
push_applied-returns-in_ok-label-in-Remove t c =
    on_ok c.push_term-in-Remove.result _ (λ at. Lowers c.args.out.now c.push_term-in-Remove.new.out (at ∷ []) (applied_for c.args.tree.now ∷ []))
    (λ at pushed. shapes.remove_form _ _ _ _ at _ _ c.args.tree.now _ c.in-Remove.is c.in_ok-label-in-Remove.ensures c.in_ok-from-in-Remove.ensures pushed)
    c.push_term-in-Remove.ensures

pub push_applied-returns-in_ok-label-in-Field : goal.push_applied-returns-in_ok-label-in-Field
push_applied-returns-in_ok-label-in-Field t c =
    on_ok c.push_term-in-Field.result _ (λ at. Lowers c.args.out.now c.push_term-in-Field.new.out (at ∷ []) (applied_for c.args.tree.now ∷ []))
    (λ at pushed. shapes.field_form _ _ _ _ at _ _ c.args.tree.now _ c.in-Field.is c.in_ok-label-in-Field.ensures c.in_ok-from-in-Field.ensures pushed)
    c.push_term-in-Field.ensures

pub push_built-returns-in_ok-parts-in-Tuple : goal.push_built-returns-in_ok-parts-in-Tuple
push_built-returns-in_ok-parts-in-Tuple t c =
    on_ok c.push_term.result _ (λ at. Lowers c.args.out.now c.push_term.new.out (at ∷ []) (built_for c.args.tree.now ∷ []))
    (λ at pushed. shapes.tuple_form _ _ _ _ at c.args.tree.now _ _ c.in-Tuple.is c.as_slice.ensures c.in_ok-parts-in-Tuple.ensures pushed)
    c.push_term.ensures

pub push_built-returns-in_ok-parts-in-List : goal.push_built-returns-in_ok-parts-in-List
push_built-returns-in_ok-parts-in-List t c =
    on_ok c.push_term-in-List.result _ (λ at. Lowers c.args.out.now c.push_term-in-List.new.out (at ∷ []) (built_for c.args.tree.now ∷ []))
    (λ at pushed. shapes.list_form _ _ _ _ at c.args.tree.now _ _ c.in-List.is c.as_slice-in-List.ensures c.in_ok-parts-in-List.ensures pushed)
    c.push_term-in-List.ensures

pub push_built-returns-in_ok-fields-in-Fields : goal.push_built-returns-in_ok-fields-in-Fields
push_built-returns-in_ok-fields-in-Fields t c =
    on_ok c.push_term-in-Fields.result _ (λ at. Lowers c.args.out.now c.push_term-in-Fields.new.out (at ∷ []) (built_for c.args.tree.now ∷ []))
    (λ at pushed. shapes.fields_form _ _ _ _ at c.args.tree.now _ _ c.in-Fields.is c.as_slice-in-Fields.ensures c.in_ok-fields-in-Fields.ensures.placed c.in_ok-fields-in-Fields.ensures.labels pushed)
    c.push_term-in-Fields.ensures

pub push_built-returns-in_ok-fields-in-Update : goal.push_built-returns-in_ok-fields-in-Update
push_built-returns-in_ok-fields-in-Update t c =
    on_ok c.push_term-in-Update.result _ (λ at. Lowers c.args.out.now c.push_term-in-Update.new.out (at ∷ []) (built_for c.args.tree.now ∷ []))
    (λ at pushed. shapes.update_form _ _ _ _ _ _ at c.args.tree.now _ _ _ c.in-Update.is c.as_slice-in-Update.ensures c.in_ok-from-in-Update.ensures c.in_ok-fields-in-Update.ensures.placed c.in_ok-fields-in-Update.ensures.labels pushed)
    c.push_term-in-Update.ensures

pub push_built-returns-in_ok-fields-in-Extend : goal.push_built-returns-in_ok-fields-in-Extend
push_built-returns-in_ok-fields-in-Extend t c =
    on_ok c.push_term-in-Extend.result _ (λ at. Lowers c.args.out.now c.push_term-in-Extend.new.out (at ∷ []) (built_for c.args.tree.now ∷ []))
    (λ at pushed. shapes.extend_form _ _ _ _ _ _ at c.args.tree.now _ _ _ c.in-Extend.is c.as_slice-in-Extend.ensures c.in_ok-from-in-Extend.ensures c.in_ok-fields-in-Extend.ensures.placed c.in_ok-fields-in-Extend.ensures.labels pushed)
    c.push_term-in-Extend.ensures

pub push_choice-returns-in_ok-branches-in-Guards : goal.push_choice-returns-in_ok-branches-in-Guards
push_choice-returns-in_ok-branches-in-Guards t c =
    on_ok c.push_term.result _ (λ at. Lowers c.args.out.now c.push_term.new.out (at ∷ []) (choice_for c.args.tree.now ∷ []))
    (λ at pushed. shapes.guards_form _ _ _ _ at c.args.tree.now _ _ c.in-Guards.is c.as_slice.ensures c.in_ok-branches-in-Guards.ensures pushed)
    c.push_term.ensures

pub push_choice-returns-in_ok-branches-in-Case : goal.push_choice-returns-in_ok-branches-in-Case
push_choice-returns-in_ok-branches-in-Case t c =
    on_ok c.push_term-in-Case.result _ (λ at. Lowers c.args.out.now c.push_term-in-Case.new.out (at ∷ []) (choice_for c.args.tree.now ∷ []))
    (λ at pushed. shapes.case_form _ _ _ _ _ _ at c.args.tree.now _ (spec.cases_in c.args.tree.now) _ c.in-Case.is (ap spec.cases_layer (out_case c.args.tree.now _ _ c.in-Case.is)) c.in_ok-scrutinee-in-Case.ensures c.in_ok-branches-in-Case.ensures.placed c.in_ok-branches-in-Case.ensures.patterns pushed)
    c.push_term-in-Case.ensures

pub push_choice-returns-in_ok-body-in-Let : goal.push_choice-returns-in_ok-body-in-Let
push_choice-returns-in_ok-body-in-Let t c =
    on_ok c.push_term-in-Let.result _ (λ at. Lowers c.args.out.now c.push_term-in-Let.new.out (at ∷ []) (choice_for c.args.tree.now ∷ []))
    (λ at pushed. shapes.let_form _ _ _ _ _ _ at c.args.tree.now _ _ _ c.in-Let.is c.as_slice-in-Let.ensures c.in_ok-groups-in-Let.ensures.placed c.in_ok-groups-in-Let.ensures.patterns c.in_ok-body-in-Let.ensures pushed)
    c.push_term-in-Let.ensures

pub push_all-loop-tree-preserved : goal.push_all-loop-tree-preserved
push_all-loop-tree-preserved t c =
    turns.places_turn _ _ _ _ _ c.loop-tree.tree-index c.args.trees.now c.tree-item.result _ c.loop-tree-test.true c.tree-item.is c.loop-tree.invariant c.in_ok-push_tree.ensures c.in_ok-push.ensures.ok

pub push_calls-loop-argument-preserved : goal.push_calls-loop-argument-preserved
push_calls-loop-argument-preserved t c =
    turns.calls_turn _ _ _ _ _ _ _ _ c.loop-argument.argument-index c.args.arguments.now c.argument-item.result c.loop-argument-test.true c.argument-item.is c.loop-argument.invariant c.in_ok-argument.ensures c.in_ok-at.ensures

pub push_fields-loop-label-preserved : goal.push_fields-loop-label-preserved
push_fields-loop-label-preserved t c = (
  turns.turn (λ field. tree_for field.1) (λ field. field.1) _ _ _ _ _ c.loop-label.label-index c.args.fields.now c.loop-label-item.result _ c.loop-label-test.true c.loop-label-item.is c.loop-label.invariant.0 c.in_ok-push_tree.ensures c.in_ok-push.ensures.ok,
  turns.words_turn (λ field. field.0) (λ field. field.0) _ _ c.loop-label.label-index c.args.fields.now c.loop-label-item.result _ c.loop-label-test.true c.loop-label-item.is c.loop-label.invariant.1 c.in_ok-label.ensures c.in_ok-push.ensures.ok,
)

pub push_pairs-loop-condition-preserved : goal.push_pairs-loop-condition-preserved
push_pairs-loop-condition-preserved t c =
    turns.pairs_turn _ _ _ _ _ _ c.loop-condition.condition-index c.args.pairs.now c.loop-condition-item.result _ _ c.loop-condition-test.true c.loop-condition-item.is c.loop-condition.invariant c.in_ok-condition.ensures c.in_ok-push_tree.ensures c.in_ok-push.ensures.ok

pub push_branches-loop-pattern-preserved : goal.push_branches-loop-pattern-preserved
push_branches-loop-pattern-preserved t c = (
  turns.turn (λ branch. tree_for branch.1) (λ branch. branch.1) _ _ _ _ _ c.loop-pattern.pattern-index c.as_slice-branches.result.now c.loop-pattern-item.result _ c.loop-pattern-test.true c.loop-pattern-item.is c.loop-pattern.invariant.0 c.in_ok-push_tree.ensures c.in_ok-push.ensures.ok,
  turns.words_turn (λ branch. spec.pattern_for branch.0) (λ branch. pattern_of branch.0) _ _ c.loop-pattern.pattern-index c.as_slice-branches.result.now c.loop-pattern-item.result _ c.loop-pattern-test.true c.loop-pattern-item.is c.loop-pattern.invariant.1 c.in_ok-pattern.ensures c.in_ok-push.ensures.ok,
)

pub push_branches-returns-in_default : goal.push_branches-returns-in_default
push_branches-returns-in_default t c =
    let none : spec.cases_in c.args.tree.now ≡ [] = search rules in
    record {
      placed = relabelled _ _ [] _ [] _ (sym (ap places_of_branches c.new-made.ensures)) (sym (ap spec.branch_trees none)) (nothing_yet c.args.out.now);
      patterns = ap spec.patterns_of c.new-made.ensures ∙ sym (ap spec.branch_patterns none);
    }

pub push_branches-returns-clause-placed : goal.push_branches-returns-clause-placed
push_branches-returns-clause-placed t c =
    relabelled _ _ _ _ _ _ refl (ap spec.branch_trees (turns.take_all c.loop-pattern.pattern-index c.as_slice-branches.result.now c.loop-pattern-test.false ∙ c.as_slice-branches.ensures ∙ sym (ap spec.cases_layer (out_case c.args.tree.now _ _ c.in-Case.is)))) c.loop-pattern.invariant.0

pub push_branches-returns-clause-patterns : goal.push_branches-returns-clause-patterns
push_branches-returns-clause-patterns t c =
    c.loop-pattern.invariant.1 ∙ ap spec.branch_patterns (turns.take_all c.loop-pattern.pattern-index c.as_slice-branches.result.now c.loop-pattern-test.false ∙ c.as_slice-branches.ensures ∙ sym (ap spec.cases_layer (out_case c.args.tree.now _ _ c.in-Case.is)))

pub push_functions-loop-function-preserved : goal.push_functions-loop-function-preserved
push_functions-loop-function-preserved t c = (
  turns.turn spec.function_tree (λ member. member.1) _ _ _ _ _ c.loop-function.function-index c.args.functions.now c.function-item.result _ c.loop-function-test.true c.function-item.is c.loop-function.invariant.0 c.in_ok-at.ensures c.in_ok-push.ensures.ok,
  turns.words_turn spec.function_name (λ member. pattern_of member.0) _ _ c.loop-function.function-index c.args.functions.now c.function-item.result _ c.loop-function-test.true c.function-item.is c.loop-function.invariant.1 (wholes.local_is c.function-item.result.number) c.in_ok-push.ensures.ok,
)

pub push_group-returns-in-Functions-clause-placed : goal.push_group-returns-in-Functions-clause-placed
push_group-returns-in-Functions-clause-placed t c =
    subst (λ l. IfOk c.push_functions.result (λ made. Lowers c.args.out.now c.push_functions.new.out (places_of_branches made) l)) (wholes.functions_trees c.args.group.now _ _ c.in-Functions.is c.as_slice.ensures) c.push_functions.ensures.placed

pub push_group-returns-in-Functions-clause-patterns : goal.push_group-returns-in-Functions-clause-patterns
push_group-returns-in-Functions-clause-patterns t c =
    subst (λ l. IfOk c.push_functions.result (λ made. spec.patterns_of made ≡ l)) (wholes.functions_names c.args.group.now _ _ c.in-Functions.is c.as_slice.ensures) c.push_functions.ensures.patterns

pub push_groups-loop-group-preserved : goal.push_groups-loop-group-preserved
push_groups-loop-group-preserved t c = (
  turns.groups_turn _ _ _ _ _ c.loop-group.group-index c.args.groups.now c.group-item.result _ c.loop-group-test.true c.group-item.is c.loop-group.invariant.0 c.in_ok-push_group.ensures.placed c.in_ok-push.ensures.ok,
  turns.words_turn (λ group. spec.patterns_in (spec.group_members group)) spec.patterns_of _ _ c.loop-group.group-index c.args.groups.now c.group-item.result _ c.loop-group-test.true c.group-item.is c.loop-group.invariant.1 c.in_ok-push_group.ensures.patterns c.in_ok-push.ensures.ok,
)

pub push_tree-returns-in-Lambda : goal.push_tree-returns-in-Lambda
push_tree-returns-in-Lambda t c =
    renamed c.push_applied.result _ _ (applied_for c.args.tree.now) (tree_for c.args.tree.now) (wholes.whole_lambda c.args.tree.now _ _ _ c.in-Lambda.is) c.push_applied.ensures

pub push_tree-returns-in-Call : goal.push_tree-returns-in-Call
push_tree-returns-in-Call t c =
    renamed c.push_applied-in-Call.result _ _ (applied_for c.args.tree.now) (tree_for c.args.tree.now) (wholes.whole_call c.args.tree.now _ _ c.in-Call.is) c.push_applied-in-Call.ensures

pub push_tree-returns-in-Guards : goal.push_tree-returns-in-Guards
push_tree-returns-in-Guards t c =
    renamed c.push_choice.result _ _ (choice_for c.args.tree.now) (tree_for c.args.tree.now) (wholes.whole_guards c.args.tree.now _ c.in-Guards.is) c.push_choice.ensures

pub push_tree-returns-in-Case : goal.push_tree-returns-in-Case
push_tree-returns-in-Case t c =
    renamed c.push_choice-in-Case.result _ _ (choice_for c.args.tree.now) (tree_for c.args.tree.now) (wholes.whole_case c.args.tree.now _ _ c.in-Case.is) c.push_choice-in-Case.ensures

pub push_tree-returns-in-Let : goal.push_tree-returns-in-Let
push_tree-returns-in-Let t c =
    renamed c.push_choice-in-Let.result _ _ (choice_for c.args.tree.now) (tree_for c.args.tree.now) (wholes.whole_let c.args.tree.now _ _ c.in-Let.is) c.push_choice-in-Let.ensures

pub push_tree-returns-in-Tuple : goal.push_tree-returns-in-Tuple
push_tree-returns-in-Tuple t c =
    renamed c.push_built.result _ _ (built_for c.args.tree.now) (tree_for c.args.tree.now) (wholes.whole_tuple c.args.tree.now _ c.in-Tuple.is) c.push_built.ensures

pub push_tree-returns-in-List : goal.push_tree-returns-in-List
push_tree-returns-in-List t c =
    renamed c.push_built-in-List.result _ _ (built_for c.args.tree.now) (tree_for c.args.tree.now) (wholes.whole_list c.args.tree.now _ c.in-List.is) c.push_built-in-List.ensures

pub push_tree-returns-in-Fields : goal.push_tree-returns-in-Fields
push_tree-returns-in-Fields t c =
    renamed c.push_built-in-Fields.result _ _ (built_for c.args.tree.now) (tree_for c.args.tree.now) (wholes.whole_fields c.args.tree.now _ c.in-Fields.is) c.push_built-in-Fields.ensures

pub push_tree-returns-in-Update : goal.push_tree-returns-in-Update
push_tree-returns-in-Update t c =
    renamed c.push_built-in-Update.result _ _ (built_for c.args.tree.now) (tree_for c.args.tree.now) (wholes.whole_update c.args.tree.now _ _ c.in-Update.is) c.push_built-in-Update.ensures

pub push_tree-returns-in-Extend : goal.push_tree-returns-in-Extend
push_tree-returns-in-Extend t c =
    renamed c.push_built-in-Extend.result _ _ (built_for c.args.tree.now) (tree_for c.args.tree.now) (wholes.whole_extend c.args.tree.now _ _ c.in-Extend.is) c.push_built-in-Extend.ensures
