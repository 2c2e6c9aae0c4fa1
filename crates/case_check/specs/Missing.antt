-- What it is that a case is missing.
use Rattle.std.specs.Prelude.{◌≡◌, ℕ, ◌==◌, Bool, true, false, ◌&&◌, ◌||◌, not, List, [], ◌∷◌}
use Rattle.std.specs.Str.{bytes_eq}
use Rattle.case_check.specs.Shapes.{Choice, Wanted, Wanteds, Literal, AndWanted, Shape, Shapes, OtherLiteral, AndShape, count}

-- the pattern asks at some place for another constructor than the skeleton has there, or for a literal where it has another
abbrev mutual
  pub clashes : Shape → Wanted → Bool
  clashes (Shape.Made constructor ss) (Wanted.Made union wanted ws) = not (bytes_eq constructor wanted) || clash_at ss ws
  clashes OtherLiteral Literal = true
  clashes _ _ = false

  pub clash_at : Shapes → Wanteds → Bool
  clash_at (AndShape s ss) (AndWanted w ws) = clashes s w || clash_at ss ws
  clash_at _ _ = false

-- one of the union has this name and so many arguments
abbrev pub is_choice : List ℕ → ℕ → List Choice → Bool
is_choice name takes [] = false
is_choice name takes (c ∷ cs) = (bytes_eq c.0 name && (c.1 == takes)) || is_choice name takes cs

-- where both have a constructor, the skeleton's is of the pattern's union
abbrev mutual
  pub belongs : Shape → Wanted → Bool
  belongs (Shape.Made constructor ss) (Wanted.Made union wanted ws) =
      is_choice constructor (count ss) union && (not (bytes_eq constructor wanted) || belong_at ss ws)
  belongs _ _ = true

  pub belong_at : Shapes → Wanteds → Bool
  belong_at (AndShape s ss) (AndWanted w ws) = belongs s w && belong_at ss ws
  belong_at _ _ = true

-- the skeleton clashes with every pattern, and its constructors are of the unions of those in the patterns at their places
abbrev pub IsMissing : Shape → List Wanted → Type 0
IsMissing s [] = Unit {0}
IsMissing s (w ∷ ws) = (clashes s w ≡ true) × (belongs s w ≡ true) × IsMissing s ws
