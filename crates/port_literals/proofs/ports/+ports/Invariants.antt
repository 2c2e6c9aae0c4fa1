use Rattle.std.proofs.Common.{◌≡◌, drop, map}
use Rattle.std.specs.List.{list_all}
use Rattle.port_literals.specs.Ports as spec
use Rattle.port_literals.proofs.ports.+ports.Given as goal

-- those that are left decide
abbrev pub invariant-all_ports-loop-part : goal.invariant-all_ports-loop-part
invariant-all_ports-loop-part l = list_all (λ part. part) (map spec.is_port l.parts) ≡ list_all (λ part. part) (map spec.is_port (drop l.part-index l.parts))

abbrev pub invariant-all_fields-loop-port : goal.invariant-all_fields-loop-port
invariant-all_fields-loop-port l =
    list_all (λ field. field.1) (map spec.passed_field l.fields) ≡ list_all (λ field. field.1) (map spec.passed_field (drop l.port-index l.fields))
