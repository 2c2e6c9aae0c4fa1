use Rattle.std.proofs.Common.{◌≡◌, ℕ, List, ◌<◌, get_or}
use Rattle.type_unify.proofs.fields.place_of.Given as goal

abbrev pub invariant-loop-at : goal.invariant-loop-at
invariant-loop-at l = (d : List ℕ × ℕ) (j : ℕ) → j < l.at → (get_or l.fields j d).0 ≡ l.label → ⊥
