-- A store as contracts see it, and how its terms hang together.
use Rattle.std.specs.Prelude.{◌≡◌, ℕ, suc, List, [], ◌∷◌, ◌++◌, ◌⊎◌, Some, None, slice_index_or, slice_set}
use Rattle.elm_typing.specs.declared.flag.Flag.TheVariants.{Plain}
use Rattle.type_terms.specs.declared.node.Node.{Node}
use Rattle.type_terms.specs.declared.node.Node.TheVariants.{End, Link}
use Rattle.type_terms.specs.declared.shape.Shape.{Shape}
use Rattle.type_terms.specs.declared.shape.Shape.TheVariants as shape

-- the terms by number, and the notes that the first one's sort is at most the second one's, oldest first
pub record State : Type 0 where
  pub nodes : List Node
  pub notes : List (ℕ × ℕ)

-- A store is the list of its states: the present one, and before each change that stands the one before, newest first.
abbrev pub nodes_of : List State → List Node
nodes_of [] = []
nodes_of (present ∷ earlier) = present.nodes

abbrev pub notes_of : List State → List (ℕ × ℕ)
notes_of [] = []
notes_of (present ∷ earlier) = present.notes

-- the store with one term more
abbrev pub with_term : Shape → List State → List State
with_term shape store = record { nodes = nodes_of store ++ End shape ∷ []; notes = notes_of store } ∷ store

-- the store with this node in place of the one at this number
abbrev pub with_node : ℕ → Node → List State → List State
with_node at node store = record { nodes = slice_set (nodes_of store) at node; notes = notes_of store } ∷ store

-- the store with one note more
abbrev pub with_note : ℕ → ℕ → List State → List State
with_note a b store = record { nodes = nodes_of store; notes = notes_of store ++ (a, b) ∷ [] } ∷ store

-- a number that no term has stands for any type
abbrev pub node_at : List Node → ℕ → Node
node_at nodes i = slice_index_or nodes i (End (shape.Variable Plain))

abbrev pub terms_of : List (List ℕ × ℕ) → List ℕ
terms_of [] = []
terms_of (field ∷ fields) = field.1 ∷ terms_of fields

-- the terms that a shape is made of
abbrev pub parts : Shape → List ℕ
parts (shape.Variable flag) = []
parts (shape.Opaque number flag) = []
parts (shape.Named name arguments) = arguments
parts (shape.Arrow from to) = from ∷ to ∷ []
parts (shape.Tuple ps) = ps
parts (shape.Row fields None) = terms_of fields
parts (shape.Row fields (Some rest)) = rest ∷ terms_of fields

-- the terms directly below a node
abbrev pub below : Node → List ℕ
below (End shape) = parts shape
below (Link to) = to ∷ []

abbrev pub Each : (ℕ → Type 0) → List ℕ → Type 0
Each P [] = Unit {0}
Each P (k ∷ ks) = P k × Each P ks

abbrev pub Among : ℕ → List ℕ → Type 0
Among k [] = ⊥
Among k (x ∷ xs) = (k ≡ x) ⊎ Among k xs

abbrev pub IsLink : Node → Type 0
IsLink (Link to) = Unit {0}
IsLink (End shape) = ⊥

abbrev pub IsVariable : Node → Type 0
IsVariable (End (shape.Variable flag)) = Unit {0}
IsVariable _ = ⊥

-- links lead from the second term to the first
pub data LinksTo (nodes : List Node) (to : ℕ) : ℕ → Type 0 where
  itself : LinksTo nodes to to
  further : (i next : ℕ) → node_at nodes i ≡ Link next → LinksTo nodes to next → LinksTo nodes to i

-- the first term stands in the second one
pub data StandsIn (nodes : List Node) (v : ℕ) : ℕ → Type 0 where
  here : StandsIn nodes v v
  within : (i k : ℕ) → Among k (below (node_at nodes i)) → StandsIn nodes v k → StandsIn nodes v i

-- the term is the rest of a row, perhaps through links
pub record IsRest (nodes : List Node) (i : ℕ) : Type 0 where
  pub row : ℕ
  pub fields : List (List ℕ × ℕ)
  pub rest : ℕ
  pub stands : node_at nodes row ≡ End (shape.Row fields (Some rest))
  pub leads : LinksTo nodes i rest

-- how many variables are not linked
abbrev pub unlinked : List Node → ℕ
unlinked [] = 0
unlinked (End (shape.Variable flag) ∷ nodes) = suc (unlinked nodes)
unlinked (_ ∷ nodes) = unlinked nodes
