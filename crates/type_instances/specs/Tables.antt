-- The terms of variables.
use Rattle.std.specs.Prelude.{◌≡◌, ℕ, Bool, true, false, Option, Some, None, List, [], ◌∷◌, ◌⊎◌, if◌then◌else◌}
use Rattle.std.specs.Str.{bytes_eq}
use Rattle.elm_typing.specs.Ground.{Ground, Record, Tuple, NoGrounds}
use Rattle.elm_typing.specs.Sorts.{Sort}
use Rattle.typing_rules.specs.WrittenTypes.{Choice}
use Rattle.type_sorts.specs.Vertices.{Member}
use Rattle.type_terms.specs.Solutions.{Assignment}
use Rattle.type_unify.specs.declared.rows.Tail.{Tail}
use Rattle.type_unify.specs.declared.rows.Tail.TheVariants.{Closed, Rigid, Open}
use Rattle.type_unify.specs.Rests.{IsType}
use Rattle.type_unify.specs.Steps.{IsTail, under}
use Rattle.type_conditions.specs.Conditions.{Asked, terms_in, Satisfies}
use Rattle.type_conditions.specs.Judging.{IsWell}
use Rattle.type_instances.specs.declared.uses.Use.{Use}
use Rattle.type_instances.specs.declared.table.Variable.{Variable}
use Rattle.type_instances.specs.Uses.{use_of, EachUse, AllowsAt}

-- the type that a name stands for, by the first variable of the name
abbrev pub choice_of : List Variable → Assignment → Choice
choice_of [] s name = Tuple NoGrounds
choice_of (v ∷ vs) s name = if bytes_eq v.name name then s v.at else choice_of vs s name

abbrev pub term_of : List Variable → List ℕ → ℕ
term_of [] name = 0
term_of (v ∷ vs) name = if bytes_eq v.name name then v.at else term_of vs name

abbrev pub tail_of : List Variable → List ℕ → Tail
tail_of [] name = Closed
tail_of (v ∷ vs) name = if bytes_eq v.name name then v.tail else tail_of vs name

-- a tail other than the end of a closed row
abbrev pub is_open : Tail → Bool
is_open Closed = false
is_open (Rigid at number) = true
is_open (Open at) = true

-- the name has a term, and one that may stand before a bar has a tail
abbrev pub Knows : List Variable → List ℕ → Type 0
Knows [] name = ⊥
Knows (v ∷ vs) name = (v.name ≡ name) ⊎ Knows vs name

abbrev pub ServesAt : List Variable → Bool → List ℕ → Type 0
ServesAt table false name = Knows table name
ServesAt table true name = Knows table name × (is_open (tail_of table name) ≡ true)

abbrev pub Serves : List Variable → List Use → Type 0
Serves table us = EachUse (λ u. ServesAt table u.before u.name) us

abbrev pub EachVariable : (Variable → Type 0) → List Variable → Type 0
EachVariable P [] = Unit {0}
EachVariable P (v ∷ vs) = P v × EachVariable P vs

-- what is asked of the type that a variable with this tail stands for
abbrev pub AllowsTail : Tail → List ℕ → Ground → Type 0
AllowsTail tail name type = AllowsAt (is_open tail) name type

-- where the variable's term is a row, it is that which its tail ends
abbrev pub IsRowWhere : Bool → Assignment → Tail → ℕ → Type 0
IsRowWhere false s tail at = Unit {0}
IsRowWhere true s tail at = s at ≡ Record (under s tail)

-- the types of a variable's term
pub record Stands (chosen : ℕ → Sort) (s : Assignment) (v : Variable) : Type 0 where
  pub well : IsWell chosen (s v.at)
  pub row : IsRowWhere (is_open v.tail) s v.tail v.at
  pub allowed : AllowsTail v.tail v.name (s v.at)

-- the variables' terms stand in the conditions
pub record IsTable (asked : Asked) (table : List Variable) : Type 0 where
  pub types : EachVariable (λ v. IsType (terms_in asked) v.at) table
  pub tails : EachVariable (λ v. IsTail (terms_in asked) v.tail) table
  pub stand : (chosen : ℕ → Sort) (s : Assignment) → Satisfies asked chosen s → EachVariable (Stands chosen s) table

-- each variable is one of these uses: it has a tail exactly where a use stands before a bar
abbrev pub IsUsed : List Use → Variable → Type 0
IsUsed us v = Member (use_of (is_open v.tail) v.name) us

abbrev pub tail_before : List Variable → Option (List ℕ) → Tail
tail_before table None = Closed
tail_before table (Some name) = tail_of table name
