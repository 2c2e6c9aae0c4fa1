-- How a missing case is sought: beginning with a hole, pattern by pattern, each skeleton that doesn't clash with the pattern
-- is filled in at one place so that it does, in all ways.
use Rattle.std.specs.Prelude.{ℕ, Bool, if◌then◌else◌, Option, Some, None, List, [], ◌∷◌, ◌++◌, map}
use Rattle.std.specs.List.{flat_map, list_all}
use Rattle.std.specs.Str.{bytes_eq}
use Rattle.case_check.specs.Shapes.{Choice, Wanted, Wanteds, Literal, AndWanted, Shape, Shapes, Hole, OtherLiteral, AndShape, holes}
use Rattle.case_check.specs.Missing.{clashes, belongs}

-- a constructor with these arguments, where another is asked for, or else with its arguments filled in
abbrev pub filled_made : List ℕ → Shapes → List ℕ → (Shapes → List Shapes) → List Shape
filled_made name ss wanted parts = if bytes_eq name wanted then map (Shape.Made name) (parts ss) else Shape.Made name ss ∷ []

abbrev pub filled_choice : Choice → List ℕ → (Shapes → List Shapes) → List Shape
filled_choice c wanted parts = filled_made c.0 (holes c.1) wanted parts

abbrev pub filled_choices : List Choice → List ℕ → (Shapes → List Shapes) → List Shape
filled_choices union wanted parts = flat_map (λ c. filled_choice c wanted parts) union

-- the skeleton filled in at one place, so that it clashes
abbrev mutual
  pub filled : Shape → Wanted → List Shape
  filled (Shape.Made name ss) (Wanted.Made union wanted ws) = filled_made name ss wanted (λ z. filled_at z ws)
  filled Hole (Wanted.Made union wanted ws) = filled_choices union wanted (λ z. filled_at z ws)
  filled Hole Literal = OtherLiteral ∷ []
  filled OtherLiteral Literal = OtherLiteral ∷ []
  filled _ _ = []

  pub filled_at : Shapes → Wanteds → List Shapes
  filled_at (AndShape s ss) (AndWanted w ws) = map (λ z. AndShape z ss) (filled s w) ++ map (AndShape s) (filled_at ss ws)
  filled_at _ _ = []

abbrev pub split : Shape → Wanted → List Shape
split s w = if clashes s w then s ∷ [] else filled s w

abbrev pub split_all : List Shape → Wanted → List Shape
split_all ss w = flat_map (λ s. split s w) ss

-- what is left of these after the patterns
abbrev pub left_after : List Shape → List Wanted → List Shape
left_after ss [] = ss
left_after ss (w ∷ ws) = left_after (split_all ss w) ws

abbrev pub belongs_to_all : Shape → List Wanted → Bool
belongs_to_all s ws = list_all (λ w. belongs s w) ws

-- the first whose constructors are of the patterns' unions
abbrev pub first_of : List Wanted → List Shape → Option Shape
first_of ws [] = None
first_of ws (s ∷ ss) = if belongs_to_all s ws then Some s else first_of ws ss

abbrev pub missing_of : List Wanted → Option Shape
missing_of ws = first_of ws (left_after (Hole ∷ []) ws)
