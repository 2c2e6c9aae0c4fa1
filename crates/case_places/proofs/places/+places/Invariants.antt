use Rattle.std.proofs.Common.{◌≡◌, ◌++◌, map, take}
use Rattle.case_places.specs.Places as spec
use Rattle.case_places.proofs.places.+places.Given as goal

abbrev pub invariant-push_exprs-loop-tree : goal.invariant-push_exprs-loop-tree
invariant-push_exprs-loop-tree l = l.out ≡ l.fn.out ++ spec.joined (map spec.places_of (take l.tree-index l.trees))

abbrev pub invariant-push_fields-loop-field : goal.invariant-push_fields-loop-field
invariant-push_fields-loop-field l = l.out ≡ l.fn.out ++ spec.joined (map spec.places_of_set (take l.field-index l.fields))

abbrev pub invariant-push_branches-loop-chosen : goal.invariant-push_branches-loop-chosen
invariant-push_branches-loop-chosen l = l.out ≡ l.fn.out ++ spec.chosen (take l.chosen-index l.branches)

abbrev pub invariant-push_guards-loop-condition : goal.invariant-push_guards-loop-condition
invariant-push_guards-loop-condition l = l.out ≡ l.fn.out ++ spec.choices (take l.condition-index l.branches)

abbrev pub invariant-push_declarations-loop-tree : goal.invariant-push_declarations-loop-tree
invariant-push_declarations-loop-tree l = l.out ≡ l.fn.out ++ spec.joined (map spec.places_of_declaration (take l.tree-index l.trees))
