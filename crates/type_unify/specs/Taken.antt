-- What a step leaves of a store.
use Rattle.std.specs.Prelude.{◌≡◌, ◌≢◌, ℕ, ◌<◌, ◌≤◌, List, length, Option, Some, None}
use Rattle.elm_typing.specs.Ground.{Row, Record}
use Rattle.elm_typing.specs.Ordered.{RowInOrder}
use Rattle.elm_typing.specs.Rows.{extended_all}
use Rattle.type_terms.specs.declared.node.Node.{Node}
use Rattle.type_terms.specs.Solutions.{Assignment, Solves, fields_of}
use Rattle.type_terms.specs.Terms.{unlinked}
use Rattle.type_unify.specs.declared.rows.Tail.{Tail}
use Rattle.type_unify.specs.declared.rows.Tail.TheVariants.{Closed, Rigid, Open}
use Rattle.type_unify.specs.declared.step.Step.{Step}
use Rattle.type_unify.specs.Rests.{RestsApart, IsType}
use Rattle.type_unify.specs.Steps.{row_of, IsTail, Holds}

-- the same types for the terms below n
abbrev pub Agree : ℕ → Assignment → Assignment → Type 0
Agree n s r = (i : ℕ) → i < n → s i ≡ r i

-- the term at which a tail stands
abbrev pub rest_term : Tail → Option ℕ
rest_term Closed = None
rest_term (Rigid at number) = Some at
rest_term (Open at) = Some at

-- the solutions are, on the terms that stood before, those in which the step holds
pub record Takes (old new : List Node) (step : Step) : Type 0 where
  pub sound : (s : Assignment) → Solves new s → Solves old s × Holds s step
  pub complete : (s : Assignment) → Solves old s → Holds s step → (r : Assignment) × Agree (length old) s r × Solves new r
  pub apart : RestsApart new
  pub types : (i : ℕ) → IsType old i → IsType new i
  pub longer : length old ≤ length new
  pub fewer : unlinked new < unlinked old

-- the rest x is now these fields over the new rest q
pub record OpensRest (old new : List Node) (x : ℕ) (fields : List (List ℕ × ℕ)) (q : ℕ) : Type 0 where
  pub sound : (s : Assignment) → Solves new s → Solves old s × (s x ≡ Record (extended_all (fields_of s fields) (row_of (s q))))
  pub complete : (s : Assignment) (row : Row) → Solves old s → RowInOrder row → s x ≡ Record (extended_all (fields_of s fields) row)
      → (r : Assignment) × Agree (length old) s r × Solves new r × (r q ≡ Record row)
  pub apart : RestsApart new
  pub types : (i : ℕ) → IsType old i → IsType new i
  pub rests : (v : ℕ) → v ≢ x → IsTail old (Open v) → IsTail new (Open v)
  pub rest : IsTail new (Open q)
  pub place : length old ≤ q
  pub longer : length old ≤ length new
  pub as_many : unlinked new ≤ unlinked old
