use Rattle.std.proofs.Common.{◌≡◌, take}
use Rattle.type_sense.specs.Parameters as spec
use Rattle.type_sense.proofs.parameters.+parameters.Given as goal

abbrev pub invariant-all_with_parameters-loop-tree : goal.invariant-all_with_parameters-loop-tree
invariant-all_with_parameters-loop-tree l = l.made ≡ spec.all_with_parameters (take l.tree-index l.trees)

abbrev pub invariant-fields_with_parameters-loop-label : goal.invariant-fields_with_parameters-loop-label
invariant-fields_with_parameters-loop-label l = l.made ≡ spec.fields_with_parameters (take l.label-index l.fields)
