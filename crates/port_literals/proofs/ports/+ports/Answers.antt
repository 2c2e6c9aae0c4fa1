use Rattle.std.proofs.Common.{ℕ, Bool, List, ◌&&◌, map, sym, ap, ◌∙◌}
use Rattle.std.specs.List.{list_all}
use Rattle.port_literals.specs.Ports.{are_labels, passed_field}
use Rattle.port_literals.proofs.PortLaws.{record_port}
use Rattle.port_literals.proofs.ports.+ports.Goals as goal

pub is_port-returns-in-Fields : goal.is_port-returns-in-Fields
is_port-returns-in-Fields t c =
    c.are_port_fields.ensures
    ∙ ap (λ fields. are_labels fields && list_all (λ (field : List ℕ × Bool). field.1) (map passed_field fields)) c.as_slice-in-Fields.ensures
    ∙ sym (record_port c.args.port.now _ c.in-Fields.is)
