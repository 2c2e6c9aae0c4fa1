use Rattle.std.proofs.Common.{◌≡◌, map, take}
use Rattle.name_steps.specs.PatternNames.{spot_of}
use Rattle.name_steps.proofs.pushes.push_labels.Given as goal

abbrev pub invariant-loop-field : goal.invariant-loop-field
invariant-loop-field l = l.spots ≡ map (λ field. spot_of field.at field.label) (take l.field-index l.fields)
