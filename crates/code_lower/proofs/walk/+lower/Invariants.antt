use Rattle.std.proofs.Common.{◌≡◌, map, take}
use Rattle.elm_meaning.specs.Lowered.{places_of_pairs, places_of_branches, places_of_fields, places_of_groups}
use Rattle.code_lower.specs.Laying as spec
use Rattle.code_lower.specs.Laying.{Lowers, Wraps}
use Rattle.code_lower.proofs.walk.+lower.Given as goal

abbrev pub invariant-push_calls-loop-argument : goal.invariant-push_calls-loop-argument
invariant-push_calls-loop-argument l = Wraps l.fn.out l.out l.function l.at (λ tree. spec.calls_for tree (take l.argument-index l.arguments))

abbrev pub invariant-push_all-loop-tree : goal.invariant-push_all-loop-tree
invariant-push_all-loop-tree l = Lowers l.fn.out l.out l.places (map spec.tree_for (take l.tree-index l.trees))

abbrev pub invariant-push_fields-loop-label : goal.invariant-push_fields-loop-label
invariant-push_fields-loop-label l = Lowers l.fn.out l.out (places_of_fields l.made) (spec.fields_for (take l.label-index l.fields)) × (spec.labels_of l.made ≡ spec.labels_for (take l.label-index l.fields))

abbrev pub invariant-push_pairs-loop-condition : goal.invariant-push_pairs-loop-condition
invariant-push_pairs-loop-condition l = Lowers l.fn.out l.out (places_of_pairs l.made) (spec.pairs_for (take l.condition-index l.pairs))

abbrev pub invariant-push_branches-loop-pattern : goal.invariant-push_branches-loop-pattern
invariant-push_branches-loop-pattern l = Lowers l.fn.out l.out (places_of_branches l.made) (spec.branch_trees (take l.pattern-index l.branches)) × (spec.patterns_of l.made ≡ spec.branch_patterns (take l.pattern-index l.branches))

abbrev pub invariant-push_functions-loop-function : goal.invariant-push_functions-loop-function
invariant-push_functions-loop-function l = Lowers l.fn.out l.out (places_of_branches l.made) (map spec.function_tree (take l.function-index l.functions)) × (spec.patterns_of l.made ≡ map spec.function_name (take l.function-index l.functions))

abbrev pub invariant-push_groups-loop-group : goal.invariant-push_groups-loop-group
invariant-push_groups-loop-group l = Lowers l.fn.out l.out (places_of_groups l.made) (spec.all_trees_in (map spec.group_members (take l.group-index l.groups))) × (map spec.patterns_of l.made ≡ map (λ group. spec.patterns_in (spec.group_members group)) (take l.group-index l.groups))
