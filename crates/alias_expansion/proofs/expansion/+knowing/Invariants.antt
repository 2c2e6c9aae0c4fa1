use Rattle.std.proofs.Common.{◌≡◌, take}
use Rattle.type_names.specs.Answers.{places_of}
use Rattle.alias_expansion.specs.Expansion as spec
use Rattle.alias_expansion.proofs.expansion.+knowing.Given as goal

abbrev pub invariant-knows_all-loop-tree : goal.invariant-knows_all-loop-tree
invariant-knows_all-loop-tree l = l.known ≡ spec.knows_all l.aliases (places_of l.scope) (take l.tree-index l.trees)

abbrev pub invariant-knows_fields-loop-tree : goal.invariant-knows_fields-loop-tree
invariant-knows_fields-loop-tree l = l.known ≡ spec.knows_fields l.aliases (places_of l.scope) (take l.tree-index l.fields)
