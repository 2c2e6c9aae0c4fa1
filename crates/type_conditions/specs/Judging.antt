-- How conditions grow. What stands in a program asks for a term whose types are exactly those that it may have.
use Rattle.std.specs.Prelude.{◌≡◌, ℕ, ◌≤◌, List, ◌++◌, length}
use Rattle.elm_typing.specs.Ground.{Ground, Row, Record}
use Rattle.elm_typing.specs.Ordered.{InOrder, RowInOrder}
use Rattle.elm_typing.specs.Rows.{extended_all}
use Rattle.elm_typing.specs.Sorts.{Sort, IsAtMost, IsWellSorted, sort_of}
use Rattle.type_terms.specs.Solutions.{Assignment, fields_of}
use Rattle.type_terms.specs.Terms.{State}
use Rattle.type_unify.specs.declared.rows.Tail.{Tail}
use Rattle.type_unify.specs.declared.rows.Tail.TheVariants.{Open, Rigid}
use Rattle.type_unify.specs.Rests.{IsType}
use Rattle.type_unify.specs.Steps.{IsTail, under}
use Rattle.type_unify.specs.Taken.{Agree}
use Rattle.type_conditions.specs.Conditions.{Asked, terms_in, Satisfies}

-- Which types something may have, with these sorts of opaque types, where the terms so far have these types.
abbrev pub Judgement : Type 1
Judgement = (ℕ → Sort) → Assignment → Ground → Type 0

-- the judgement gives a type
abbrev pub HasOne : Judgement → (ℕ → Sort) → Assignment → Type 0
HasOne P chosen s = (type : Ground) × P chosen s type

-- well sorted, with the fields of its rows in the order of their labels
pub record IsWell (chosen : ℕ → Sort) (type : Ground) : Type 0 where
  pub sorted : IsWellSorted chosen type
  pub ordered : InOrder type

-- what was asked is asked still
pub record Grows (old new : Asked) : Type 0 where
  pub sound : (chosen : ℕ → Sort) (s : Assignment) → Satisfies new chosen s → Satisfies old chosen s
  pub types : (i : ℕ) → IsType (terms_in old) i → IsType (terms_in new) i
  pub longer : length (terms_in old) ≤ length (terms_in new)
  -- so marks that were taken stay good
  pub behind : (changes : List State) × (new.states ≡ changes ++ old.states)
  pub after : (more : List ℕ) × (new.proper ≡ old.proper ++ more)

-- The term at this number has exactly the types of the judgement: it has one of them, and whatever the terms before it
-- have, it may have each.
pub record Adds (old new : Asked) (P : Judgement) (at : ℕ) : Type 0 where
  pub grows : Grows old new
  pub has : (chosen : ℕ → Sort) (s : Assignment) → Satisfies new chosen s → P chosen s (s at)
  pub complete : (chosen : ℕ → Sort) (s : Assignment) (type : Ground) → Satisfies old chosen s → P chosen s type
      → (r : Assignment) × Agree (length (terms_in old)) s r × Satisfies new chosen r × (r at ≡ type)
  pub is_type : IsType (terms_in new) at

-- what ended a row ends it still
abbrev pub KeepsTails : Asked → Asked → Type 0
KeepsTails old new = (tail : Tail) → IsTail (terms_in old) tail → IsTail (terms_in new) tail

-- the tail may end any row
pub record Opens (old new : Asked) (tail : Tail) : Type 0 where
  pub grows : Grows old new
  pub tails : KeepsTails old new
  pub variable : ℕ
  pub is_open : tail ≡ Open variable
  pub is_tail : IsTail (terms_in new) tail
  pub complete : (chosen : ℕ → Sort) (s : Assignment) (row : Row) → Satisfies old chosen s → RowInOrder row
      → (r : Assignment) × Agree (length (terms_in old)) s r × Satisfies new chosen r × (under r tail ≡ row)

-- the tail is an opaque rest, over which nothing is chosen
pub record Fixes (old new : Asked) (number : ℕ) (tail : Tail) : Type 0 where
  pub grows : Grows old new
  pub tails : KeepsTails old new
  pub place : ℕ
  pub is_rigid : tail ≡ Rigid place number
  pub is_tail : IsTail (terms_in new) tail
  pub complete : (chosen : ℕ → Sort) (s : Assignment) → Satisfies old chosen s
      → (r : Assignment) × Agree (length (terms_in old)) s r × Satisfies new chosen r

-- a record of these fields over the row that the tail ends
abbrev pub HasFields : List (List ℕ × ℕ) → Tail → Judgement
HasFields fields tail chosen s type = IsWell chosen type × (type ≡ Record (extended_all (fields_of s fields) (under s tail)))

-- exactly this is asked besides
pub record Restricts (old new : Asked) (Q : (ℕ → Sort) → Assignment → Type 0) : Type 0 where
  pub grows : Grows old new
  pub has : (chosen : ℕ → Sort) (s : Assignment) → Satisfies new chosen s → Q chosen s
  pub complete : (chosen : ℕ → Sort) (s : Assignment) → Satisfies old chosen s → Q chosen s
      → (r : Assignment) × Agree (length (terms_in old)) s r × Satisfies new chosen r

abbrev pub AreEqual : ℕ → ℕ → (ℕ → Sort) → Assignment → Type 0
AreEqual a b chosen s = s a ≡ s b

-- the sort of the one is at most that of the other
abbrev pub IsBelow : ℕ → ℕ → (ℕ → Sort) → Assignment → Type 0
IsBelow a b chosen s = IsAtMost (sort_of chosen (s a)) (sort_of chosen (s b))
