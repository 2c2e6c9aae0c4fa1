use Rattle.std.proofs.Common.{◌≡◌, true, take}
use Rattle.std.specs.List.{list_all}
use Rattle.written_sorts.specs.Forced.{marks_of}
use Rattle.type_sense.proofs.sense.all_marked.Given as goal

abbrev pub invariant-loop-name : goal.invariant-loop-name
invariant-loop-name l = list_all (marks_of l.marks) (take l.name-index l.names) ≡ true
