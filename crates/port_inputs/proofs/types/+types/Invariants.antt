use Rattle.std.proofs.Common.{◌≡◌, drop, map}
use Rattle.port_inputs.specs.SameType as spec
use Rattle.port_inputs.proofs.types.+types.Given as goal

-- those that are left decide
abbrev pub invariant-are_same-loop-one : goal.invariant-are_same-loop-one
invariant-are_same-loop-one l =
    spec.all_same (map spec.same_type l.some) l.others ≡ spec.all_same (map spec.same_type (drop l.one-index l.some)) l.left

abbrev pub invariant-fields_same-loop-label : goal.invariant-fields_same-loop-label
invariant-fields_same-loop-label l =
    spec.fields_same (map spec.tested l.some) l.others ≡ spec.fields_same (map spec.tested (drop l.label-index l.some)) l.left
