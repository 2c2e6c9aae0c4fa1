use Rattle.std.proofs.Common.{◌≡◌, map, take}
use Rattle.port_values.specs.Defaults as spec
use Rattle.port_values.proofs.defaults.+defaults.Given as goal

abbrev pub invariant-defaults_of-loop-part : goal.invariant-defaults_of-loop-part
invariant-defaults_of-loop-part l = l.values.items ≡ map spec.default (take l.part-index l.parts)

abbrev pub invariant-default_fields-loop-label : goal.invariant-default_fields-loop-label
invariant-default_fields-loop-label l = l.values.items ≡ map spec.default_field (take l.label-index l.fields)
