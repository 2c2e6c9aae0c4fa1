use Rattle.type_unify.proofs.Reading.{rest_record, open_tail}
use Rattle.type_unify.proofs.rows.tail_at.Goals as goal

pub returns-in_default : goal.returns-in_default
returns-in_default c = record {
  tail = (
    c.requires.inside,
    c.requires.rest,
    open_tail _ _ _ c.shape_at.ensures.here c.requires.rest c.requires.no_row c.requires.apart c.in_default.not-Opaque,
  );
  same = λ s h. rest_record _ s _ h c.requires.rest;
}
