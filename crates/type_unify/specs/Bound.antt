-- What binding a variable leaves.
use Rattle.std.specs.Prelude.{◌≡◌, ◌≢◌, ◌↔◌, ℕ, ◌<◌, List, length}
use Rattle.type_terms.specs.declared.node.Node.{Node}
use Rattle.type_terms.specs.Solutions.{Assignment, Solves}
use Rattle.type_terms.specs.Terms.{unlinked}
use Rattle.type_unify.specs.declared.rows.Tail.TheVariants.{Open}
use Rattle.type_unify.specs.Rests.{RestsApart, IsType}
use Rattle.type_unify.specs.Steps.{IsTail}

-- the solutions are those in which both terms are equal; types and other rests stay what they are
pub record IsBound (old new : List Node) (at to : ℕ) : Type 0 where
  pub solutions : (s : Assignment) → Solves new s ↔ (Solves old s × (s at ≡ s to))
  pub apart : RestsApart new
  pub types : (i : ℕ) → IsType old i → IsType new i
  pub rests : (v : ℕ) → v ≢ at → IsTail old (Open v) → IsTail new (Open v)
  pub long : length new ≡ length old
  pub fewer : unlinked new < unlinked old
