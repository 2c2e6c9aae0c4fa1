use Rattle.std.proofs.Common.{◌≡◌, IfOk, Option, subst}
use Rattle.elm_base.specs.declared.event.PortType.{PortType}
use Rattle.port_types.proofs.RecordLaws.{port_of_fields, not_placed, stops}
use Rattle.port_types.proofs.types.+ports.Goals as goal

pub port_type-returns-in-Fields : goal.port_type-returns-in-Fields
port_type-returns-in-Fields t c =
    subst (λ (port : Option PortType). IfOk c.record_type.result (λ found. found ≡ port))
    (port_of_fields c.args.tree.now c.in-Fields.at c.in-Fields.before c.in-Fields.fields c.as_slice-in-Fields.result.now c.in-Fields.is
    c.as_slice-in-Fields.ensures)
    c.record_type.ensures

pub record_type-returns-then-not-branch : goal.record_type-returns-then-not-branch
record_type-returns-then-not-branch t c =
    stops c.args.fields.now c.loop-label.label-index c.loop-label-item.result c.loop-label.placed.items c.in_ok-label.label c.in_ok-port_type.field-0
    c.args.before.now c.loop-label-test.true c.loop-label-item.is c.in_ok-label.ensures c.in_ok-port_type.ensures
    (not_placed c.in_ok-place.field-0 _ c.place.new.fields.items c.if-not-branch.true c.in_ok-place.ensures) c.loop-label.invariant c.in-None.is
