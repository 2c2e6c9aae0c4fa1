use Rattle.written_sorts.specs.Forced.{AreForced}
use Rattle.type_sense.specs.WrittenOf.{written_of}
use Rattle.type_sense.proofs.sense.makes_sense.Given as goal

abbrev pub invariant-loop-turn : goal.invariant-loop-turn
invariant-loop-turn l = AreForced (written_of l.tree) l.marks
