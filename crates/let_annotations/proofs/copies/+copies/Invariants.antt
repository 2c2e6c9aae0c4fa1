use Rattle.std.proofs.Common.{◌≡◌, take}
use Rattle.let_annotations.proofs.copies.+copies.Given as goal

abbrev pub invariant-copies_of-loop-tree : goal.invariant-copies_of-loop-tree
invariant-copies_of-loop-tree l = l.copied ≡ take l.tree-index l.trees

abbrev pub invariant-copies_of_fields-loop-label : goal.invariant-copies_of_fields-loop-label
invariant-copies_of_fields-loop-label l = l.copied ≡ take l.label-index l.fields
