use Rattle.std.proofs.Common.{◌≡◌, false, take}
use Rattle.std.specs.List.{list_any}
use Rattle.port_types.specs.Fields as spec
use Rattle.port_types.proofs.fields.has_label.Given as goal

abbrev pub invariant-loop-other : goal.invariant-loop-other
invariant-loop-other l = list_any (spec.has_label l.label) (take l.other-index l.fields) ≡ false
