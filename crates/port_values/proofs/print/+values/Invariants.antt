use Rattle.std.proofs.Common.{◌≡◌, ◌++◌, map, take}
use Rattle.port_values.specs.ValueText as spec
use Rattle.port_values.proofs.print.+values.Given as goal

-- the fields so far were appended
abbrev pub invariant-push_fields-loop-label : goal.invariant-push_fields-loop-label
invariant-push_fields-loop-label l =
    l.out.items ≡ l.initial.out.items ++ spec.other_fields (map spec.printed_field (take l.label-index l.others))

-- the values so far were appended
abbrev pub invariant-push_values-loop-part : goal.invariant-push_values-loop-part
invariant-push_values-loop-part l =
    l.out.items ≡ l.initial.out.items ++ spec.other_values (map spec.printed (take l.part-index l.others))
