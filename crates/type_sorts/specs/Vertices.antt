-- Notes as edges between vertices, and what is reached from the vertex of signals.
use Rattle.std.specs.Prelude.{◌≡◌, ◌≢◌, ℕ, ◌+◌, true, false, Bool, List, [], ◌∷◌, ◌⊎◌, length, slice_index_or, Option, None, if◌then◌else◌}
use Rattle.std.specs.Str.{bytes_eq}
use Rattle.elm_typing.specs.declared.flag.Flag.TheVariants.{Plain}
use Rattle.elm_typing.specs.Names.{signal_name}
use Rattle.elm_typing.specs.Sorts.{Sort, Simple as SimpleSort, Signal as SignalSort, sort_of}
use Rattle.type_terms.specs.declared.node.Node.{Node}
use Rattle.type_terms.specs.declared.node.Node.TheVariants.{End}
use Rattle.type_terms.specs.declared.shape.Shape.{Shape}
use Rattle.type_terms.specs.declared.shape.Shape.TheVariants as shape
use Rattle.type_terms.specs.Terms.{node_at, IsLink, IsRest}
use Rattle.type_terms.specs.Solutions.{Assignment, Solves}
use Rattle.type_sorts.specs.declared.edge.Edge.{Edge}
use Rattle.type_sorts.specs.declared.edge.Vertex.{Vertex}
use Rattle.type_sorts.specs.declared.edge.Vertex.TheVariants.{Simple, Signal, Variable, Opaque}

-- the sort of a vertex, where variables and opaque types have these
abbrev pub sort_at : (ℕ → Sort) → (ℕ → Sort) → Vertex → Sort
sort_at variables opaques Simple = SimpleSort
sort_at variables opaques Signal = SignalSort
sort_at variables opaques (Variable v) = variables v
sort_at variables opaques (Opaque number) = opaques number

-- the vertex of the end of a term, which is the rest of a row or isn't
abbrev pub vertex_of : Shape → ℕ → Bool → Vertex
vertex_of (shape.Variable Plain) at false = Variable at
vertex_of (shape.Opaque number Plain) at false = Opaque number
vertex_of (shape.Named name arguments) at rest = if bytes_eq name signal_name then Signal else Simple
vertex_of _ at rest = Simple

abbrev pub rest_of : Shape → Option ℕ
rest_of (shape.Row fields rest) = rest
rest_of _ = None

-- a variable of a vertex may have any type
abbrev pub IsFree : List Node → Vertex → Type 0
IsFree nodes (Variable v) = (node_at nodes v ≡ End (shape.Variable Plain)) × (IsRest nodes v → ⊥)
IsFree nodes _ = Unit {0}

-- the vertex has the sort of the term in each solution
pub record Stands (nodes : List Node) (at : ℕ) (vertex : Vertex) : Type 0 where
  pub sort : (s : Assignment) (chosen : ℕ → Sort) → Solves nodes s → sort_of chosen (s at) ≡ sort_at (λ v. sort_of chosen (s v)) chosen vertex
  pub free : IsFree nodes vertex

-- the edges of notes
abbrev pub AreEdges : List Node → List (ℕ × ℕ) → List Edge → Type 0
AreEdges nodes [] [] = Unit {0}
AreEdges nodes (note ∷ notes) (edge ∷ edges) = Stands nodes note.0 edge.below × Stands nodes note.1 edge.above × AreEdges nodes notes edges
AreEdges nodes _ _ = ⊥

abbrev pub Member : {A : Type 0} → A → List A → Type 0
Member x [] = ⊥
Member x (y ∷ ys) = (x ≡ y) ⊎ Member x ys

-- along edges from the vertex of signals
pub data Reached (edges : List Edge) : Vertex → Type 0 where
  start : Reached edges Signal
  along : (edge : Edge) → Member edge edges → Reached edges edge.below → Reached edges edge.above

-- what the edges leave open: a set that has the vertex of signals and all that is above, but not that of simple types
pub record Separates (edges : List Edge) (signals : List Vertex) : Type 0 where
  pub signal : Member Signal signals
  pub closed : (edge : Edge) → Member edge edges → Member edge.below signals → Member edge.above signals
  pub simple : Member Simple signals → ⊥

-- Those of the edges that begin at the vertex are left out, and their ends wait.
pub record Follows (vertex : Vertex) (edges kept : List Edge) (before after : List Vertex) : Type 0 where
  pub taken : (edge : Edge) → Member edge edges → Member edge kept ⊎ ((edge.below ≡ vertex) × Member edge.above after)
  pub left : (edge : Edge) → Member edge kept → Member edge edges × (edge.below ≢ vertex)
  pub added : (v : Vertex) → Member v after → Member v before ⊎ ((edge : Edge) × Member edge edges × (edge.below ≡ vertex) × (edge.above ≡ v))
  pub waiting : (v : Vertex) → Member v before → Member v after
  pub count : length kept + length after ≡ length edges + length before

-- marks say which terms are rests of rows; of terms that are links they say nothing
pub record AreRests (nodes : List Node) (marks : List Bool) : Type 0 where
  pub long : length marks ≡ length nodes
  pub yes : (i : ℕ) → slice_index_or marks i false ≡ true → IsRest nodes i
  pub no : (i : ℕ) → (IsLink (node_at nodes i) → ⊥) → slice_index_or marks i false ≡ false → IsRest nodes i → ⊥

abbrev pub IsArrow : Node → Type 0
IsArrow (End (shape.Arrow from to)) = Unit {0}
IsArrow _ = ⊥
