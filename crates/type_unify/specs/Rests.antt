-- Rests of rows stand apart from other types.
use Rattle.std.specs.Prelude.{ℕ, ◌<◌, List, [], ◌∷◌, length, drop}
use Rattle.type_terms.specs.declared.node.Node.{Node}
use Rattle.type_terms.specs.declared.node.Node.TheVariants.{End}
use Rattle.type_terms.specs.declared.shape.Shape.TheVariants as shape
use Rattle.type_terms.specs.Solutions.{MayBeRest}
use Rattle.type_terms.specs.Terms.{State, nodes_of, node_at, terms_of, Each, LinksTo, IsRest}

abbrev pub IsBare : Node → Type 0
IsBare (End (shape.Variable flag)) = Unit {0}
IsBare (End (shape.Opaque number flag)) = Unit {0}
IsBare _ = ⊥

-- links lead from the term to no variable or opaque type that is the rest of a row
abbrev pub IsNoRest : List Node → ℕ → Type 0
IsNoRest nodes i = (end : ℕ) → LinksTo nodes end i → IsRest nodes end → IsBare (node_at nodes end) → ⊥

-- the parts of a term, but for the rest of a row
abbrev pub type_parts : Node → List ℕ
type_parts (End (shape.Named name arguments)) = arguments
type_parts (End (shape.Arrow from to)) = from ∷ to ∷ []
type_parts (End (shape.Tuple parts)) = parts
type_parts (End (shape.Row fields rest)) = terms_of fields
type_parts _ = []

-- each rest is a row, or a variable or opaque type without flag that stands only as a rest
pub record RestsApart (nodes : List Node) : Type 0 where
  pub rests : (i : ℕ) → IsRest nodes i → MayBeRest (node_at nodes i)
  pub types : (i : ℕ) → Each (IsNoRest nodes) (type_parts (node_at nodes i))

-- rests stand apart in the present state, and in each one before, whatever number of changes is taken back
abbrev pub EachApart : List State → Type 0
EachApart store = (changes : ℕ) → RestsApart (nodes_of (drop changes store))

-- a term of the store that is no bare rest
abbrev pub IsType : List Node → ℕ → Type 0
IsType nodes i = (i < length nodes) × IsNoRest nodes i
