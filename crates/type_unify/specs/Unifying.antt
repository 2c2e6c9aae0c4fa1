-- What unification leaves.
use Rattle.std.specs.Prelude.{◌≡◌, ℕ, ◌≤◌, List, length}
use Rattle.type_terms.specs.declared.node.Node.{Node}
use Rattle.type_terms.specs.Solutions.{Assignment, Solves}
use Rattle.type_unify.specs.Rests.{RestsApart, IsType}
use Rattle.type_unify.specs.Taken.{Agree}

-- the solutions are, on the terms that stood before, those in which a and b are equal, and there is one
pub record Unifies (old new : List Node) (a b : ℕ) : Type 0 where
  pub sound : (s : Assignment) → Solves new s → Solves old s
  pub equal : (s : Assignment) → Solves new s → s a ≡ s b
  pub complete : (s : Assignment) → Solves old s → s a ≡ s b → (r : Assignment) × Agree (length old) s r × Solves new r
  pub solvable : (s : Assignment) × Solves new s
  -- rests stand apart still, and terms that were types are
  pub apart : RestsApart new
  pub types : (i : ℕ) → IsType old i → IsType new i
  pub longer : length old ≤ length new
