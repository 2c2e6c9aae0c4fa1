-- The states of a store, found by taking its changes back one by one.
use Rattle.std.specs.Prelude.{ℕ, ◌-◌, List, [], ◌∷◌, length, take, slice_set}
use Rattle.type_terms.specs.declared.change.Change.{Change}
use Rattle.type_terms.specs.declared.change.Change.TheVariants.{Made, Noted, WasVariable}
use Rattle.type_terms.specs.declared.node.Node.{Node}
use Rattle.type_terms.specs.declared.node.Node.TheVariants.{End}
use Rattle.type_terms.specs.declared.shape.Shape.TheVariants as shape
use Rattle.type_terms.specs.Terms.{State}

abbrev pub without_last : {A : Type 0} → List A → List A
without_last xs = take (length xs - 1) xs

-- the nodes before a change
abbrev pub nodes_before : Change → List Node → List Node
nodes_before Made nodes = without_last nodes
nodes_before Noted nodes = nodes
nodes_before (WasVariable at flag) nodes = slice_set nodes at (End (shape.Variable flag))

abbrev pub notes_before : Change → List (ℕ × ℕ) → List (ℕ × ℕ)
notes_before Noted notes = without_last notes
notes_before _ notes = notes

-- the present state and those before each change, the newest change first
abbrev pub history : List Node → List (ℕ × ℕ) → List Change → List State
history nodes notes [] = record { nodes = nodes; notes = notes } ∷ []
history nodes notes (change ∷ older) =
    record { nodes = nodes; notes = notes } ∷ history (nodes_before change nodes) (notes_before change notes) older
