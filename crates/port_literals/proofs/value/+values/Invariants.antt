use Rattle.std.proofs.Common.{◌≡◌, drop, map}
use Rattle.port_literals.specs.Reader as spec
use Rattle.port_literals.specs.Steps.{reader_field}
use Rattle.port_literals.proofs.Turns.{front_of}
use Rattle.port_literals.proofs.value.+values.Given as goal

-- what is left goes behind what was read
abbrev pub invariant-each_value-loop-part : goal.invariant-each_value-loop-part
invariant-each_value-loop-part l =
    spec.read_each (spec.read l.port) l.room (map (λ one. one.now) l.parts)
    ≡ front_of l.values.items (spec.read_each (spec.read l.port) l.room (map (λ one. one.now) (drop l.part-index l.parts)))

abbrev pub invariant-all_values-loop-port : goal.invariant-all_values-loop-port
invariant-all_values-loop-port l =
    spec.read_all (map spec.read l.ports) l.room (map (λ one. one.now) l.parts)
    ≡ front_of l.values.items (spec.read_all (map spec.read (drop l.port-index l.ports)) l.room (map (λ one. one.now) l.left))

abbrev pub invariant-field_values-loop-label : goal.invariant-field_values-loop-label
invariant-field_values-loop-label l =
    spec.read_fields (map reader_field l.ports) l.room (map (λ one. one.now) l.parts)
    ≡ front_of l.fields.items (spec.read_fields (map reader_field (drop l.label-index l.ports)) l.room (map (λ one. one.now) l.parts))
