-- For private contracts: copies of parts, as terms of conditions.
use Rattle.std.specs.Prelude.{◌≡◌, ℕ, ◌<◌, List, [], ◌∷◌, Option, Some, None, length, slice_index_or}
use Rattle.elm_typing.specs.Ground.{Ground, Record}
use Rattle.elm_typing.specs.Sorts.{Sort}
use Rattle.type_terms.specs.declared.shape.Shape.{Shape}
use Rattle.type_terms.specs.declared.shape.Shape.TheVariants as shape
use Rattle.type_terms.specs.Depth.{IsBelow}
use Rattle.type_terms.specs.Solutions.{Assignment, Fits}
use Rattle.type_terms.specs.Terms.{Each, parts}
use Rattle.type_sorts.specs.Sorts.{Meets}
use Rattle.type_unify.specs.declared.rows.Tail.{Tail}
use Rattle.type_unify.specs.declared.rows.Tail.TheVariants.{Closed}
use Rattle.type_unify.specs.Rests.{IsType}
use Rattle.type_unify.specs.Steps.{IsTail, under}
use Rattle.type_unify.specs.Taken.{Agree}
use Rattle.type_conditions.specs.Conditions.{Asked, terms_in, Satisfies}
use Rattle.type_conditions.specs.Judging.{Adds, Grows, IsWell, Judgement, KeepsTails, Restricts}
use Rattle.type_schemes.specs.declared.part.Part.{Part}
use Rattle.type_schemes.specs.declared.part.Part.TheVariants.{Shaped, Rest, Rigid}
use Rattle.type_schemes.specs.declared.copying.Entry.{Entry}
use Rattle.type_schemes.specs.Schemes.{FitFrom, FitsPart, IsRest, part_at}

abbrev pub no_entry : Entry
no_entry = record { at = 0; tail = Closed }

abbrev pub entry_at : List Entry → ℕ → Entry
entry_at table k = slice_index_or table k no_entry

abbrev pub term_at : List Entry → ℕ → ℕ
term_at table k = (entry_at table k).at

abbrev pub tail_at : List Entry → Option ℕ → Tail
tail_at table None = Closed
tail_at table (Some rest) = (entry_at table rest).tail

-- the types that the copies' terms have
abbrev pub along : List Entry → Assignment → Assignment
along table s k = s (term_at table k)

abbrev pub fields_over : (ℕ → ℕ) → List (List ℕ × ℕ) → List (List ℕ × ℕ)
fields_over f [] = []
fields_over f (field ∷ fields) = (field.0, f field.1) ∷ fields_over f fields

-- the term is a type, and the tail is one
pub record IsEntry (asked : Asked) (e : Entry) : Type 0 where
  pub is_type : IsType (terms_in asked) e.at
  pub is_tail : IsTail (terms_in asked) e.tail

abbrev pub IsTable : Asked → List Entry → Type 0
IsTable asked [] = Unit {0}
IsTable asked (e ∷ es) = IsEntry asked e × IsTable asked es

-- the term is the row without fields over the tail
abbrev pub IsBareRow : Asked → Entry → Type 0
IsBareRow asked e = (chosen : ℕ → Sort) (s : Assignment) → Satisfies asked chosen s → s e.at ≡ Record (under s e.tail)

-- what ends the shape's row is copied as what may end one
abbrev pub IsRestOf : Asked → List Entry → Shape → Type 0
IsRestOf asked table (shape.Row fields (Some rest)) = IsBareRow asked (entry_at table rest)
IsRestOf asked table _ = Unit {0}

abbrev pub MayCopy : Asked → List Entry → Part → Type 0
MayCopy asked table (Shaped shape) = Each (IsBelow (length table)) (parts shape) × IsRestOf asked table shape
MayCopy asked table _ = Unit {0}

-- well sorted types of the shape, over the types of the copies
abbrev pub JudgesShape : List Entry → Shape → Judgement
JudgesShape table shape chosen s type = IsWell chosen type × Fits ⊥ (along table s) type shape

abbrev pub JudgesPart : List Entry → Part → Judgement
JudgesPart table part chosen s type = IsWell chosen type × FitsPart (along table s) type part

-- the row without fields over a tail
pub record IsRowOver (old new : Asked) (tail : Tail) (e : Entry) : Type 0 where
  pub adds : Adds old new (λ chosen s type. IsWell chosen type × (type ≡ Record (under s tail))) e.at
  pub tails : KeepsTails old new
  pub tail_is : e.tail ≡ tail

-- the copy of one part
pub record IsCopied (table : List Entry) (old new : Asked) (part : Part) (e : Entry) : Type 0 where
  pub adds : Adds old new (JudgesPart table part) e.at
  pub tails : KeepsTails old new
  pub is_tail : IsTail (terms_in new) e.tail
  pub row : IsRest part → IsBareRow new e

-- where a part may end a row, its copy may
abbrev pub EndRows : Asked → List Part → List Entry → Type 0
EndRows asked ps table = (k : ℕ) → k < length ps → IsRest (part_at ps k) → IsBareRow asked (entry_at table k)

-- New terms for the parts: their types fit, and any that fit may be chosen.
pub record AreCopied (old new : Asked) (ps : List Part) (table : List Entry) : Type 0 where
  pub grows : Grows old new
  pub tails : KeepsTails old new
  pub long : length table ≡ length ps
  pub is_table : IsTable new table
  pub rows : EndRows new ps table
  pub has : (chosen : ℕ → Sort) (s : Assignment) → Satisfies new chosen s → FitFrom 0 chosen (along table s) ps
  pub complete : (chosen : ℕ → Sort) (s r : Assignment) → Satisfies old chosen s → FitFrom 0 chosen r ps
      → (q : Assignment) × Agree (length (terms_in old)) s q × Satisfies new chosen q × ((k : ℕ) → k < length ps → along table q k ≡ r k)

-- exactly these notes are asked besides, of the copies' terms
pub record RestrictsSorts (table : List Entry) (old new : Asked) (notes : List (ℕ × ℕ)) : Type 0 where
  pub restricts : Restricts old new (λ chosen s. Meets (along table s) chosen notes)
  pub tails : KeepsTails old new
