use Rattle.std.proofs.Common.{◌≡◌, take}
use Rattle.plain_form.specs.Numbering.{both}
use Rattle.core_names.specs.Binding as spec
use Rattle.core_names.proofs.walk.push_labels.Given as goal

abbrev pub invariant-loop-label : goal.invariant-loop-label
invariant-loop-label l = spec.listed l.out ≡ both (spec.listed l.fn.out) (spec.of_labels (take l.label-index l.labels))
