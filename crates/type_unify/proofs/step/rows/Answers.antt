use Rattle.type_unify.proofs.Visiting.{visits_rows}
use Rattle.type_unify.proofs.step.rows.Goals as goal

pub returns : goal.returns
returns c =
    let matched = rw c.as_slice.ensures at c.in_ok-extra.ensures in
    visits_rows _ _ _ _ _ _ _ _ _ _ c.in_ok-left.ensures c.in_ok-right.ensures matched
    (c.decide.ensures _ (record {
      apart = matched.2.apart;
      left_tail = c.in_ok-left.ensures.tail;
      right_tail = c.in_ok-right.ensures.tail;
      left_types = (matched.2.types _ c.in_ok-left.ensures.types c.in_ok-right.ensures.types).1;
      right_types = (matched.2.types _ c.in_ok-left.ensures.types c.in_ok-right.ensures.types).2;
    }))
