use Rattle.std.proofs.Common.{◌≡◌, map, take}
use Rattle.core_names.proofs.makers.labels_of.Given as goal

abbrev pub invariant-loop-label : goal.invariant-loop-label
invariant-loop-label l = l.labels ≡ map (λ field. field.0.name) (take l.label-index l.fields)
