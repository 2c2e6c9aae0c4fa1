use Rattle.std.proofs.Common.{◌≡◌, ◌++◌, take}
use Rattle.let_annotations.specs.Annotations as spec
use Rattle.let_annotations.proofs.found.+found.Given as goal

abbrev pub invariant-push_of_all-loop-tree : goal.invariant-push_of_all-loop-tree
invariant-push_of_all-loop-tree l = l.out ≡ l.fn.out ++ spec.found_in_all (take l.tree-index l.trees)

abbrev pub invariant-push_of_fields-loop-field : goal.invariant-push_of_fields-loop-field
invariant-push_of_fields-loop-field l = l.out ≡ l.fn.out ++ spec.found_in_fields (take l.field-index l.fields)

abbrev pub invariant-push_of_guards-loop-condition : goal.invariant-push_of_guards-loop-condition
invariant-push_of_guards-loop-condition l = l.out ≡ l.fn.out ++ spec.chosen_in_guards (take l.condition-index l.branches)

abbrev pub invariant-push_of_branches-loop-chosen : goal.invariant-push_of_branches-loop-chosen
invariant-push_of_branches-loop-chosen l = l.out ≡ l.fn.out ++ spec.chosen_in_branches (take l.chosen-index l.branches)

abbrev pub invariant-push_of_block-loop-tree : goal.invariant-push_of_block-loop-tree
invariant-push_of_block-loop-tree l = l.out ≡ l.fn.out ++ spec.found_in_block (take l.tree-index l.trees)
