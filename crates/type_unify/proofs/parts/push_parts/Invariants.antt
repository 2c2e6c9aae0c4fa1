use Rattle.std.proofs.Common.{◌≡◌, ◌++◌, take}
use Rattle.type_terms.specs.Terms.{parts}
use Rattle.type_unify.proofs.parts.push_parts.Given as goal

abbrev pub invariant-loop-at : goal.invariant-loop-at
invariant-loop-at l = l.terms ≡ l.fn.terms ++ take l.at (parts l.shape)
