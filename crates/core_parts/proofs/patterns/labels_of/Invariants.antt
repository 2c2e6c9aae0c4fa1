use Rattle.std.proofs.Common.{◌≡◌, map, take}
use Rattle.core_names.specs.Binding.{names_of}
use Rattle.plain_form.specs.PlainForm.{label_of}
use Rattle.core_parts.proofs.patterns.labels_of.Given as goal

abbrev pub invariant-loop-label : goal.invariant-loop-label
invariant-loop-label l = l.found ≡ map (label_of (names_of l.of)) (take l.label-index l.labels)
