-- For private contracts: variables that are added one by one.
use Rattle.std.specs.Prelude.{◌≡◌, ℕ, Bool, false, ◌&&◌, ◌||◌, List, [], ◌∷◌, ◌++◌, length}
use Rattle.std.specs.Str.{bytes_eq}
use Rattle.elm_typing.specs.Ground.{Ground}
use Rattle.elm_typing.specs.Sorts.{Sort}
use Rattle.type_terms.specs.Solutions.{Assignment}
use Rattle.type_unify.specs.Rests.{IsType}
use Rattle.type_unify.specs.Steps.{IsTail}
use Rattle.type_unify.specs.Taken.{Agree}
use Rattle.type_conditions.specs.Conditions.{Asked, terms_in, Satisfies}
use Rattle.type_conditions.specs.Judging.{Grows, IsWell, KeepsTails}
use Rattle.type_instances.specs.declared.uses.Use.{Use}
use Rattle.type_instances.specs.declared.table.Variable.{Variable}
use Rattle.type_instances.specs.Tables.{is_open, Stands, AllowsTail}

-- some use of the name stands before a bar
abbrev pub is_before : List Use → List ℕ → Bool
is_before [] name = false
is_before (u ∷ us) name = (u.before && bytes_eq u.name name) || is_before us name

-- a variable has the name
abbrev pub is_known : List Variable → List ℕ → Bool
is_known [] name = false
is_known (v ∷ vs) name = bytes_eq v.name name || is_known vs name

-- a variable behind the others
pub record AddsVariable (old new : Asked) (name : List ℕ) (before : Bool) (table after : List Variable) : Type 0 where
  pub added : Variable
  pub grows : Grows old new
  pub tails : KeepsTails old new
  pub behind : after ≡ table ++ added ∷ []
  pub name_is : added.name ≡ name
  pub tail_is : is_open added.tail ≡ before
  pub is_type : IsType (terms_in new) added.at
  pub is_tail : IsTail (terms_in new) added.tail
  pub stand : (chosen : ℕ → Sort) (s : Assignment) → Satisfies new chosen s → Stands chosen s added
  pub complete : (chosen : ℕ → Sort) (s : Assignment) (type : Ground) → Satisfies old chosen s → IsWell chosen type → AllowsTail added.tail added.name type
      → (r : Assignment) × Agree (length (terms_in old)) s r × Satisfies new chosen r × (r added.at ≡ type)
