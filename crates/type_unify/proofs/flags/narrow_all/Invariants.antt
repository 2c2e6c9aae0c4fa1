use Rattle.std.proofs.Common.{length}
use Rattle.type_unify.proofs.Narrowing.{Narrowing}
use Rattle.type_unify.proofs.flags.narrow_all.Given as goal

abbrev pub invariant-demands : goal.invariant-demands
invariant-demands l = Narrowing l.fn.store l.store l.at l.fn.flag l.found

abbrev pub decreases-demands : goal.decreases-demands
decreases-demands l = length l.found
