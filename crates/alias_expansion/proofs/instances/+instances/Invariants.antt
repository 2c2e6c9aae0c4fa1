use Rattle.std.proofs.Common.{◌≡◌, ◌++◌, take}
use Rattle.alias_expansion.specs.Parts as parts
use Rattle.alias_expansion.specs.Instances as spec
use Rattle.alias_expansion.proofs.instances.+instances.Given as goal

abbrev pub invariant-push_instances-loop-tree : goal.invariant-push_instances-loop-tree
invariant-push_instances-loop-tree l = record {
  whole : l.whole ≡ parts.all_there (spec.instances_of l.arguments.parameters.now l.arguments.given.now (take l.tree-index l.trees));
  grown : l.out ≡ l.fn.out ++ parts.found_among (spec.instances_of l.arguments.parameters.now l.arguments.given.now (take l.tree-index l.trees));
}

abbrev pub invariant-push_fields-loop-label : goal.invariant-push_fields-loop-label
invariant-push_fields-loop-label l = record {
  whole : l.whole ≡ parts.all_have_types (spec.instances_of_fields l.arguments.parameters.now l.arguments.given.now (take l.label-index l.fields));
  grown : l.out ≡ l.fn.out ++ parts.typed_among (spec.instances_of_fields l.arguments.parameters.now l.arguments.given.now (take l.label-index l.fields));
}
