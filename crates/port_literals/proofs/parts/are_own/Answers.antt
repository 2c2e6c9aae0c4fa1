use Rattle.std.proofs.Common.{◌≡◌, ◌==◌, nat_lt, length, refl, sym, ap, subst, ◌∙◌}
use Rattle.elm_base.specs.Spaces.{trim_start}
use Rattle.elm_base.specs.declared.event.PortType.{out-PortType}
use Rattle.elm_base.specs.declared.event.PortType.TheVariants as port
use Rattle.port_literals.specs.Parts.{parts_of}
use Rattle.port_literals.specs.Reader.{are_own}
use Rattle.port_literals.proofs.Turns.{unit_owns, tuple_owns}
use Rattle.port_literals.proofs.parts.are_own.Goals as goal

pub returns-in-Unit : goal.returns-in-Unit
returns-in-Unit c =
    let inside = c.args.inside.now in
    subst (λ x. c.is_empty.result ≡ are_own x (parts_of inside)) (sym (ap out-PortType c.in-Unit.is ∙ port.outs-Unit))
    (c.is_empty.ensures ∙ ap (λ t. length t == 0) c.trim_start.ensures ∙ unit_owns (trim_start inside) inside refl)

pub returns-in-Tuple : goal.returns-in-Tuple
returns-in-Tuple c =
    let inside = c.args.inside.now in
    subst (λ x. nat_lt c.comma.result (length inside) ≡ are_own x (parts_of inside)) (sym (ap out-PortType c.in-Tuple.is ∙ port.outs-Tuple c.in-Tuple.field-0))
    (ap (λ n. nat_lt n (length inside)) c.comma.ensures.first ∙ tuple_owns c.in-Tuple.field-0 (trim_start inside) inside refl)
