use Rattle.std.proofs.Common.{take}
use Rattle.type_instances.specs.Building.{BuildsAll, BuildsFields}
use Rattle.type_instances.proofs.Sizes.{tree_size, trees_size, fields_size}
use Rattle.type_instances.proofs.building.+build.Given as goal

abbrev pub decreases-build : goal.decreases-build
decreases-build l = tree_size l.tree.now

abbrev pub decreases-build_all : goal.decreases-build_all
decreases-build_all l = trees_size l.trees.now

abbrev pub decreases-build_fields : goal.decreases-build_fields
decreases-build_fields l = fields_size l.fields.now

abbrev pub invariant-build_all-loop-tree : goal.invariant-build_all-loop-tree
invariant-build_all-loop-tree l = BuildsAll l.table l.fn.conditions l.conditions (take l.tree-index l.trees) l.terms

abbrev pub invariant-build_fields-loop-label : goal.invariant-build_fields-loop-label
invariant-build_fields-loop-label l = BuildsFields l.table l.fn.conditions l.conditions (take l.label-index l.fields) l.made
