-- Terms end: what stands below a term is no deeper than a bound, which doubles with each change.
use Rattle.std.specs.Prelude.{ℕ, zero, suc, ◌+◌, ◌<◌, ◌^◌, List, [], ◌∷◌, length}
use Rattle.type_terms.specs.declared.node.Node.{Node}
use Rattle.type_terms.specs.Terms.{State, nodes_of, node_at, below, Each}

-- the terms below i end within this many steps
abbrev pub EndsWithin : List Node → ℕ → ℕ → Type 0
EndsWithin nodes zero i = ⊥
EndsWithin nodes (suc steps) i = Each (EndsWithin nodes steps) (below (node_at nodes i))

abbrev pub doubled : ℕ → ℕ
doubled zero = 1
doubled (suc n) = doubled n + doubled n

abbrev pub IsBelow : ℕ → ℕ → Type 0
IsBelow n k = k < n

-- parts stand in the store, nothing stands below itself, and numbers fit 32 bits
pub record IsSound (nodes : List Node) (bound : ℕ) : Type 0 where
  pub deep : (i : ℕ) → EndsWithin nodes bound i
  pub inside : (i : ℕ) → Each (IsBelow (length nodes)) (below (node_at nodes i))
  pub small : length nodes < 2 ^ 32

-- what a store keeps of its present terms
abbrev pub IsStored : List State → Type 0
IsStored store = IsSound (nodes_of store) (doubled (length store))

-- the terms of each note stand in the store
abbrev pub AreNotesBelow : ℕ → List (ℕ × ℕ) → Type 0
AreNotesBelow n [] = Unit {0}
AreNotesBelow n (note ∷ notes) = (note.0 < n) × (note.1 < n) × AreNotesBelow n notes

-- each state is sound
abbrev pub AreSound : List State → Type 0
AreSound [] = Unit {0}
AreSound (state ∷ earlier) =
    IsSound state.nodes (doubled (length (state ∷ earlier)))
    × AreNotesBelow (length state.nodes) state.notes
    × AreSound earlier

abbrev pub sum_of : (ℕ → ℕ) → List ℕ → ℕ
sum_of f [] = 0
sum_of f (k ∷ ks) = f k + sum_of f ks

-- how many terms stand below i, i with them, each as often as it stands there
abbrev pub size : List Node → ℕ → ℕ → ℕ
size nodes zero i = 0
size nodes (suc steps) i = suc (sum_of (size nodes steps) (below (node_at nodes i)))

-- the size of a term of a store
abbrev pub weight : List State → ℕ → ℕ
weight store i = size (nodes_of store) (doubled (length store)) i
