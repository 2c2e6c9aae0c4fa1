use Rattle.std.proofs.Common.{◌≡◌, ◌++◌, take}
use Rattle.type_sense.proofs.judging.push_copies.Given as goal

abbrev pub invariant-loop-name : goal.invariant-loop-name
invariant-loop-name l = l.out ≡ l.fn.out ++ take l.name-index l.names
