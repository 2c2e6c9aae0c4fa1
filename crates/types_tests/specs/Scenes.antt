-- What a scene of tests keeps.
use Rattle.std.specs.Prelude.{ℕ, List, [], ◌∷◌}
use Rattle.type_terms.specs.declared.node.Node.{Node}
use Rattle.type_terms.specs.Terms.{State, nodes_of, Each}
use Rattle.type_unify.specs.declared.rows.Tail.{Tail}
use Rattle.type_unify.specs.Rests.{IsType}
use Rattle.type_unify.specs.Steps.{IsTail}

abbrev pub EachTail : List Node → List Tail → Type 0
EachTail nodes [] = Unit {0}
EachTail nodes (tail ∷ tails) = IsTail nodes tail × EachTail nodes tails

-- the terms are types of the store, and the tails are ends of rows
pub record AreMade (store : List State) (made : List ℕ) (rests : List Tail) : Type 0 where
  pub types : Each (IsType (nodes_of store)) made
  pub tails : EachTail (nodes_of store) rests
