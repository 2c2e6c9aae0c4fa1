-- Notes that are written one after the other.
use Rattle.std.specs.Prelude.{◌≡◌, List, ℕ, ◌++◌}
use Rattle.type_terms.specs.Terms.{State, nodes_of, notes_of}

-- the same terms with these notes behind the others
pub record Noted (old new : List State) (notes : List (ℕ × ℕ)) : Type 0 where
  pub nodes : nodes_of new ≡ nodes_of old
  pub notes_are : notes_of new ≡ notes_of old ++ notes
