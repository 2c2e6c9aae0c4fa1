use Rattle.std.proofs.Common.{drop}
use Rattle.type_conditions.proofs.Deciding.{Left}
use Rattle.type_conditions.proofs.decide.note_all.Given as goal

abbrev pub invariant-loop-below : goal.invariant-loop-below
invariant-loop-below l = Left l.fn.types l.types l.fn.notes (drop l.below-index l.notes)
