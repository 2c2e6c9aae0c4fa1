-- What new terms keep.
use Rattle.std.specs.Prelude.{ℕ, List, [], Some, length}
use Rattle.type_terms.specs.declared.node.Node.{Node}
use Rattle.type_terms.specs.declared.shape.Shape.{Shape}
use Rattle.type_terms.specs.declared.shape.Shape.TheVariants as shape
use Rattle.elm_typing.specs.declared.flag.Flag.TheVariants.{Plain}
use Rattle.type_terms.specs.Terms.{State, nodes_of, with_term}
use Rattle.type_unify.specs.declared.rows.Tail.{Tail}
use Rattle.type_unify.specs.Rests.{RestsApart, IsType}
use Rattle.type_unify.specs.Steps.{IsTail}

-- rests stand apart, and what was a type or the end of a row is one still
pub record Keeps (old new : List Node) : Type 0 where
  pub apart : RestsApart new
  pub types : (i : ℕ) → IsType old i → IsType new i
  pub tails : (tail : Tail) → IsTail old tail → IsTail new tail

abbrev pub HasNoRest : Shape → Type 0
HasNoRest (shape.Row fields (Some rest)) = ⊥
HasNoRest _ = Unit {0}

-- a variable or an opaque type, without flag
abbrev pub IsPlainLeaf : Shape → Type 0
IsPlainLeaf (shape.Variable Plain) = Unit {0}
IsPlainLeaf (shape.Opaque number Plain) = Unit {0}
IsPlainLeaf _ = ⊥

-- the store with this term, and with a row without fields over it
abbrev pub with_rest : Shape → List State → List State
with_rest leaf store = with_term (shape.Row [] (Some (length (nodes_of store)))) (with_term leaf store)
