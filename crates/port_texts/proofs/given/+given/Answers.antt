use Rattle.std.proofs.Common.{◌-◌, ◌∙◌, ap}
use Rattle.port_texts.specs.Given as spec
use Rattle.port_texts.proofs.GivenLaws.{tuple_whole, record_whole}
use Rattle.port_texts.proofs.Turns.{not_zero}
use Rattle.port_texts.proofs.given.+given.Goals as goal

pub is_given-returns-in-Tuple : goal.is_given-returns-in-Tuple
is_given-returns-in-Tuple t c =
    c.tuple_given.ensures ∙ ap (spec.tuple_given (c.args.levels - 1)) c.as_slice.ensures
    ∙ tuple_whole c.args.port.now _ c.in-Tuple.is c.args.levels (not_zero c.args.levels c.if-levels-eq0.false)

pub is_given-returns-in-Fields : goal.is_given-returns-in-Fields
is_given-returns-in-Fields t c =
    c.record_given.ensures ∙ ap (spec.record_given (c.args.levels - 1)) c.as_slice-in-Fields.ensures
    ∙ record_whole c.args.port.now _ c.in-Fields.is c.args.levels (not_zero c.args.levels c.if-levels-eq0.false)
