use Rattle.std.proofs.Common.{◌≡◌, ◌++◌, take}
use Rattle.type_names.specs.Answers.{places_of}
use Rattle.alias_cycles.specs.Naming as spec
use Rattle.alias_cycles.proofs.naming.+names.Given as goal

abbrev pub invariant-push_all_names-loop-tree : goal.invariant-push_all_names-loop-tree
invariant-push_all_names-loop-tree l = l.out ≡ l.fn.out ++ spec.names_in_all (places_of l.scope) (take l.tree-index l.trees)

abbrev pub invariant-push_of_fields-loop-tree : goal.invariant-push_of_fields-loop-tree
invariant-push_of_fields-loop-tree l = l.out ≡ l.fn.out ++ spec.names_in_fields (places_of l.scope) (take l.tree-index l.fields)
