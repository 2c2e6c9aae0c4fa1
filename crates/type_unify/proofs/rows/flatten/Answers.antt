use Rattle.std.proofs.Common.{◌++◌, ◌∙◌, ap}
use Rattle.type_unify.proofs.Reading.{reads_closed, reads_more}
use Rattle.type_unify.proofs.rows.flatten.Goals as goal

pub returns-in-None : goal.returns-in-None
returns-in-None c =
    reads_closed _ _ _ _ _ c.in-Row.more _ _ c.requires.apart c.rests.invariant c.shape_at.ensures c.in-Row.is c.in-None.is
    (c.in_ok-push_fields.ensures ∙ ap (λ fs. c.rests.fields ++ fs) c.as_slice.ensures)

pub rests-preserved : goal.rests-preserved
rests-preserved c =
    reads_more _ _ _ _ _ c.in-Row.more _ _ _ _ c.requires.apart c.rests.invariant c.shape_at.ensures c.in-Row.is c.in-Some.is
    c.find-end.ensures.leads c.find-end.ensures.end c.find-end.ensures.inside c.find-end.ensures.lighter
    (c.in_ok-push_fields.ensures ∙ ap (λ fs. c.rests.fields ++ fs) c.as_slice.ensures)
