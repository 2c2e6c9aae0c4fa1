use Rattle.std.proofs.Common.{◌≡◌, false, take}
use Rattle.written_sorts.specs.Forced.{marks_of}
use Rattle.type_sense.proofs.judging.is_marked.Given as goal

abbrev pub invariant-loop-other : goal.invariant-loop-other
invariant-loop-other l = marks_of (take l.other-index l.marks) l.name ≡ false
