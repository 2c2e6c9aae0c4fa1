-- Conditions on types, and what it is to satisfy them.
use Rattle.std.specs.Prelude.{ℕ, List, [], ◌∷◌, ◌++◌, length}
use Rattle.elm_typing.specs.Sorts.{Sort}
use Rattle.type_terms.specs.declared.node.Node.{Node}
use Rattle.type_terms.specs.declared.shape.Shape.{Shape}
use Rattle.type_terms.specs.Solutions.{Assignment, Solves}
use Rattle.type_terms.specs.Terms.{State, nodes_of, notes_of, with_term}
use Rattle.type_sorts.specs.Sorts.{Meets}
use Rattle.well_sorted.specs.Asking.{AreSorted}

-- a store of terms with notes on their sorts, and the terms whose types are to be well sorted
pub record Asked : Type 0 where
  pub states : List State
  pub proper : List ℕ

abbrev pub terms_in : Asked → List Node
terms_in asked = nodes_of asked.states

abbrev pub noted_in : Asked → List (ℕ × ℕ)
noted_in asked = notes_of asked.states

-- The types of the terms, with these sorts of opaque types, are as is asked.
pub record Satisfies (asked : Asked) (chosen : ℕ → Sort) (s : Assignment) : Type 0 where
  pub solves : Solves (terms_in asked) s
  pub meets : Meets s chosen (noted_in asked)
  pub sorted : AreSorted chosen s asked.proper

-- nothing that is asked has the property
abbrev pub Excludes : Asked → ((ℕ → Sort) → Assignment → Type 0) → Type 0
Excludes asked P = (chosen : ℕ → Sort) (s : Assignment) → Satisfies asked chosen s → P chosen s → ⊥

abbrev pub IsSatisfiable : Asked → Type 0
IsSatisfiable asked = (chosen : ℕ → Sort) × (s : Assignment) × Satisfies asked chosen s

abbrev pub nothing_asked : Asked
nothing_asked = record { states = record { nodes = []; notes = [] } ∷ []; proper = [] }

-- a term of this shape more, whose type is to be well sorted
abbrev pub with_made : Shape → Asked → Asked
with_made shape asked =
    record { states = with_term shape asked.states; proper = asked.proper ++ length (terms_in asked) ∷ [] }
