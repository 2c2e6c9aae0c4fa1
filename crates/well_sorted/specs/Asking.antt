-- What notes have to say, so that the types of terms are well sorted.
use Rattle.std.specs.Prelude.{◌≡◌, ℕ, List, [], ◌∷◌}
use Rattle.elm_typing.specs.Sorts.{Sort, Simple, IsWellSorted, sort_of}
use Rattle.type_terms.specs.declared.node.Node.{Node}
use Rattle.type_terms.specs.declared.shape.Shape.{Shape}
use Rattle.type_terms.specs.declared.shape.Shape.TheVariants as shape
use Rattle.type_terms.specs.Solutions.{Assignment, Solves}
use Rattle.type_terms.specs.Terms.{node_at, terms_of, Each, IsVariable}
use Rattle.type_sorts.specs.Sorts.{Meets}

-- the term has a well sorted type
abbrev pub IsSorted : (ℕ → Sort) → Assignment → ℕ → Type 0
IsSorted chosen s i = IsWellSorted chosen (s i)

abbrev pub AreSorted : (ℕ → Sort) → Assignment → List ℕ → Type 0
AreSorted chosen s terms = Each (IsSorted chosen s) terms

-- the unlinked variables have well sorted types
abbrev pub AreVariablesSorted : List Node → (ℕ → Sort) → Assignment → Type 0
AreVariablesSorted nodes chosen s = (i : ℕ) → IsVariable (node_at nodes i) → IsSorted chosen s i

-- each of the terms is at most the one that is simple
abbrev pub each_simple : ℕ → List ℕ → List (ℕ × ℕ)
each_simple simple [] = []
each_simple simple (k ∷ ks) = (k, simple) ∷ each_simple simple ks

-- What the sorts of its parts are to meet: of a function the argument's is at most the result's, and all other parts are
-- simple. One term is known to be simple.
abbrev pub asked : ℕ → Shape → List (ℕ × ℕ)
asked simple (shape.Named name arguments) = each_simple simple arguments
asked simple (shape.Arrow from to) = (from, to) ∷ []
asked simple (shape.Tuple ps) = each_simple simple ps
asked simple (shape.Row fields rest) = each_simple simple (terms_of fields)
asked simple _ = []

-- Where the type of one term is simple, sorts meet the notes for well sorted types of the terms; and where the types of
-- variables are well sorted, only for these.
pub record Tells (nodes : List Node) (simple : ℕ) (terms : List ℕ) (notes : List (ℕ × ℕ)) : Type 0 where
  pub met : (chosen : ℕ → Sort) (s : Assignment) → Solves nodes s → sort_of chosen (s simple) ≡ Simple →
      AreSorted chosen s terms → Meets s chosen notes
  pub only : (chosen : ℕ → Sort) (s : Assignment) → Solves nodes s → sort_of chosen (s simple) ≡ Simple →
      AreVariablesSorted nodes chosen s → Meets s chosen notes → AreSorted chosen s terms

-- another solution in which each term has the sort that it had, and the variables' types are well sorted
pub record SortsVariables (nodes : List Node) (chosen : ℕ → Sort) (s r : Assignment) : Type 0 where
  pub solves : Solves nodes r
  pub same : (i : ℕ) → sort_of chosen (r i) ≡ sort_of chosen (s i)
  pub sorted : AreVariablesSorted nodes chosen r
