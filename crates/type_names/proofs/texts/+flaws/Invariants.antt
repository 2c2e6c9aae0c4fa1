use Rattle.std.proofs.Common.{◌≡◌, ◌++◌, take}
use Rattle.type_names.specs.Answers.{places_of}
use Rattle.type_names.specs.Texts as spec
use Rattle.type_names.proofs.texts.+flaws.Given as goal

abbrev pub invariant-push_all_flaws-loop-tree : goal.invariant-push_all_flaws-loop-tree
invariant-push_all_flaws-loop-tree l =
    l.out ≡ l.fn.out ++ spec.flaws_in_all (places_of l.scope) l.variables l.parameters (take l.tree-index l.trees)

abbrev pub invariant-push_of_fields-loop-tree : goal.invariant-push_of_fields-loop-tree
invariant-push_of_fields-loop-tree l =
    l.out ≡ l.fn.out ++ spec.flaws_in_fields (places_of l.scope) l.variables l.parameters (take l.tree-index l.fields)
