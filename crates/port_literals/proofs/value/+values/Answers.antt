use Rattle.std.proofs.Common.{map, sym, subst, ap, ◌∙◌}
use Rattle.std.specs.Option.{option_map}
use Rattle.elm_base.specs.declared.event.PortValue.TheVariants as made
use Rattle.port_literals.specs.Reader.{between, read_all, whole_fields, owned, read}
use Rattle.port_literals.specs.Steps.{reader_field, Reads}
use Rattle.port_literals.proofs.Wholes.{tuple_whole, record_whole}
use Rattle.port_literals.proofs.value.+values.Goals as goal

pub value-returns-in-Tuple : goal.value-returns-in-Tuple
value-returns-in-Tuple t c =
    let left = c.unbracketed-room.result.0 in
    let inside = c.unbracketed-room.result.1.now in
    subst (λ x. Reads x c.tuple_value.result)
    (sym (tuple_whole c.args.port.now _ c.in-Tuple.is c.args.room left c.args.text.now inside c.unbracketed-room.ensures
    ∙ ap (λ ports. option_map made.Tuple (owned (read_all (map read ports)) left (between 40 41 inside))) (sym c.as_slice.ensures)))
    c.tuple_value.ensures

pub value-returns-in-Fields : goal.value-returns-in-Fields
value-returns-in-Fields t c =
    let left = c.unbracketed-room.result.0 in
    let inside = c.unbracketed-room.result.1.now in
    subst (λ x. Reads x c.record_value.result)
    (sym (record_whole c.args.port.now _ c.in-Fields.is c.args.room left c.args.text.now inside c.unbracketed-room.ensures
    ∙ ap (λ ports. option_map made.Fields (owned (whole_fields (map reader_field ports)) left (between 123 125 inside))) (sym c.as_slice-in-Fields.ensures)))
    c.record_value.ensures
