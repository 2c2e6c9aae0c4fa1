use Rattle.std.proofs.Common.{◌≡◌, ◌∷◌, take}
use Rattle.case_check.proofs.skeleton.in_front.Given as goal

abbrev pub invariant-loop-other : goal.invariant-loop-other
invariant-loop-other l = l.made ≡ l.first ∷ take l.other-index l.others
