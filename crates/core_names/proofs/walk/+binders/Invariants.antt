use Rattle.std.proofs.Common.{◌≡◌, take}
use Rattle.plain_form.specs.Numbering.{both}
use Rattle.core_names.specs.Tables.{naming, tables_of}
use Rattle.core_names.specs.Binding as spec
use Rattle.core_names.proofs.walk.+binders.Given as goal

abbrev pub invariant-push_all-loop-tree : goal.invariant-push_all-loop-tree
invariant-push_all-loop-tree l = spec.listed l.out ≡ both (spec.listed l.fn.out) (spec.of_all (naming (tables_of l.names)) (take l.tree-index l.trees))

abbrev pub invariant-push_sets-loop-set : goal.invariant-push_sets-loop-set
invariant-push_sets-loop-set l = spec.listed l.out ≡ both (spec.listed l.fn.out) (spec.of_sets (naming (tables_of l.names)) (take l.set-index l.sets))

abbrev pub invariant-push_guards-loop-condition : goal.invariant-push_guards-loop-condition
invariant-push_guards-loop-condition l = spec.listed l.out ≡ both (spec.listed l.fn.out) (spec.of_guards (naming (tables_of l.names)) (take l.condition-index l.branches))

abbrev pub invariant-push_branches-loop-pattern : goal.invariant-push_branches-loop-pattern
invariant-push_branches-loop-pattern l = spec.listed l.out ≡ both (spec.listed l.fn.out) (spec.of_branches (naming (tables_of l.names)) (take l.pattern-index l.branches))

abbrev pub invariant-push_block-loop-definition : goal.invariant-push_block-loop-definition
invariant-push_block-loop-definition l = spec.listed l.out ≡ both (spec.listed l.fn.out) (spec.of_block (naming (tables_of l.names)) (take l.definition-index l.definitions))
