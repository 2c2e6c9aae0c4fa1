use Rattle.std.proofs.Common.{◌≡◌, ◌++◌, take}
use Rattle.type_names.specs.Answers.{places_of}
use Rattle.alias_expansion.specs.Parts as parts
use Rattle.alias_expansion.specs.Expansion as spec
use Rattle.alias_expansion.proofs.expansion.+plain.Given as goal

abbrev pub invariant-push_all-loop-tree : goal.invariant-push_all-loop-tree
invariant-push_all-loop-tree l = l.out ≡ l.fn.out ++ spec.plain_all l.aliases (places_of l.scope) (take l.tree-index l.trees)

abbrev pub invariant-push_parts-loop-tree : goal.invariant-push_parts-loop-tree
invariant-push_parts-loop-tree l = record {
  whole : l.whole ≡ parts.all_there (spec.plain_all l.aliases (places_of l.scope) (take l.tree-index l.trees));
  grown : l.out ≡ l.fn.out ++ parts.found_among (spec.plain_all l.aliases (places_of l.scope) (take l.tree-index l.trees));
}

abbrev pub invariant-push_fields-loop-label : goal.invariant-push_fields-loop-label
invariant-push_fields-loop-label l = record {
  whole : l.whole ≡ parts.all_have_types (spec.plain_fields l.aliases (places_of l.scope) (take l.label-index l.fields));
  grown : l.out ≡ l.fn.out ++ parts.typed_among (spec.plain_fields l.aliases (places_of l.scope) (take l.label-index l.fields));
}
