-- What a scene of tests keeps.
use Rattle.std.specs.Prelude.{ℕ, List}
use Rattle.type_terms.specs.Terms.{Each}
use Rattle.type_unify.specs.declared.rows.Tail.{Tail}
use Rattle.type_unify.specs.Rests.{IsType}
use Rattle.type_unify.specs.Steps.{IsTail}
use Rattle.type_conditions.specs.Conditions.{Asked, terms_in}

-- these terms are types, and the tail may end a row
pub record AreMade (asked : Asked) (made : List ℕ) (tail : Tail) : Type 0 where
  pub types : Each (IsType (terms_in asked)) made
  pub is_tail : IsTail (terms_in asked) tail
