use Rattle.type_schemes.proofs.Tables.{note-inside}
use Rattle.type_schemes.proofs.Whole.{note-noted, note-typed, noted-none}
use Rattle.type_schemes.proofs.copying.copy_notes.Goals as goal
use Rattle.std.proofs.Common.{refl}

pub bounds-table-below : goal.bounds-table-below
bounds-table-below c = (note-inside _ _ _ (0, 0) c.requires.below c.loop-below-test.true).0

pub bounds-table-above : goal.bounds-table-above
bounds-table-above c = (note-inside _ _ _ (0, 0) c.requires.below c.loop-below-test.true).1

pub at_most-requires-clause-below : goal.at_most-requires-clause-below
at_most-requires-clause-below c =
    note-typed c.args.conditions.now c.loop-below.conditions c.args.table.now c.args.notes.now _ _ c.requires.table c.loop-below.invariant (note-inside _ _ _ (0, 0) c.requires.below c.loop-below-test.true).0

pub at_most-requires-clause-above : goal.at_most-requires-clause-above
at_most-requires-clause-above c =
    note-typed c.args.conditions.now c.loop-below.conditions c.args.table.now c.args.notes.now _ _ c.requires.table c.loop-below.invariant (note-inside _ _ _ (0, 0) c.requires.below c.loop-below-test.true).1

pub loop-below-preserved : goal.loop-below-preserved
loop-below-preserved c =
    note-noted c.args.conditions.now c.loop-below.conditions c.at_most.new.self c.args.table.now c.args.notes.now c.loop-below.below-index (0, 0) _ _ c.loop-below-test.true c.requires.table c.requires.below
    c.loop-below.invariant refl refl c.in_ok-at_most.ensures.restricts c.in_ok-at_most.ensures.tails
