use Rattle.std.proofs.Common.{◌≡◌, ◌++◌, take}
use Rattle.type_terms.specs.Terms.{parts}
use Rattle.type_unify.specs.Heads.{zipped}
use Rattle.type_unify.proofs.parts.push_pairs.Given as goal

abbrev pub invariant-loop-at : goal.invariant-loop-at
invariant-loop-at l = l.waiting ≡ l.fn.waiting ++ zipped (take l.at (parts l.first)) (take l.at (parts l.second))
