use Rattle.std.proofs.Common.{sym, ap, ◌∙◌, true≢false}
use Rattle.port_inputs.specs.Fit.{type_of}
use Rattle.port_inputs.proofs.fit.standing_of.Goals as goal

pub returns-else-same_type : goal.returns-else-same_type
returns-else-same_type c =
    (c.in-Some.own.now, ap (type_of c.args.inputs.now) (sym c.bytes.ensures) ∙ sym c.in-Some.ensures, λ is. true≢false (sym (c.same_type.ensures.1 is) ∙ c.if-same_type.false))
