use Rattle.std.proofs.Common.{◌≡◌, ◌++◌, map, take}
use Rattle.std.specs.List.{flat_map}
use Rattle.name_steps.specs.Steps as spec
use Rattle.name_steps.proofs.expressions.+steps.Given as goal

abbrev pub invariant-push_exprs-loop-tree : goal.invariant-push_exprs-loop-tree
invariant-push_exprs-loop-tree l = l.out ≡ l.fn.out ++ spec.each (map spec.read_of (take l.tree-index l.trees))

abbrev pub invariant-push_fields-loop-field : goal.invariant-push_fields-loop-field
invariant-push_fields-loop-field l =
    l.out ≡ l.initial.out ++ flat_map (λ field. field.steps) (map spec.field_of (take l.field-index l.fields))

abbrev pub invariant-push_branches-loop-pattern : goal.invariant-push_branches-loop-pattern
invariant-push_branches-loop-pattern l =
    l.out ≡ l.fn.out ++ spec.cases (take l.pattern-index l.branches)

abbrev pub invariant-push_guards-loop-condition : goal.invariant-push_guards-loop-condition
invariant-push_guards-loop-condition l =
    l.out ≡ l.fn.out ++ spec.choices (take l.condition-index l.branches)

abbrev pub invariant-push_declarations-loop-tree : goal.invariant-push_declarations-loop-tree
invariant-push_declarations-loop-tree l =
    l.out ≡ l.fn.out ++ flat_map (λ part. part.steps) (map spec.part_of (take l.tree-index l.trees))
