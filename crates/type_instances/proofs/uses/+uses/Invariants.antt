use Rattle.std.proofs.Common.{◌≡◌, ◌++◌, take}
use Rattle.type_instances.specs.Listing.{uses_in_trees, uses_of_fields}
use Rattle.type_instances.proofs.uses.+uses.Given as goal

abbrev pub invariant-push_uses_in-loop-tree : goal.invariant-push_uses_in-loop-tree
invariant-push_uses_in-loop-tree l = l.out ≡ l.fn.out ++ uses_in_trees (take l.tree-index l.trees)

abbrev pub invariant-push_uses_of-loop-tree : goal.invariant-push_uses_of-loop-tree
invariant-push_uses_of-loop-tree l = l.out ≡ l.fn.out ++ uses_of_fields (take l.tree-index l.fields)
