use Rattle.std.proofs.lemmas.List.{drop_more}
use Rattle.type_conditions.proofs.Deciding.{left-on}
use Rattle.type_conditions.proofs.decide.note_all.Goals as goal

pub loop-below-preserved : goal.loop-below-preserved
loop-below-preserved c =
    left-on _ _ _ _ _ _ _ c.loop-below.invariant
    (drop_more c.args.notes.now c.loop-below.below-index (0, 0) c.loop-below-test.true) c.in_ok-sort_below.ensures.state
