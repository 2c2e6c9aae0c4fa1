-- What patterns ask for, and skeletons of values, as trees. Tuples, `()` and lists count as constructors.
use Rattle.std.specs.Prelude.{ℕ, zero, suc, ◌+◌, List, [], ◌∷◌, length}

-- a constructor of a union by its name, with the number of its arguments
abbrev pub Choice : Type 0
Choice = List ℕ × ℕ

mutual
  -- names are nothing: a variable and a record pattern ask for nothing
  pub data Wanted : Type 0 where
    Anything : Wanted
    Literal : Wanted
    -- one of the constructors of its union, with what its arguments are asked for
    Made : (union : List Choice) (constructor : List ℕ) (parts : Wanteds) → Wanted

  pub data Wanteds : Type 0 where
    NoWanteds : Wanteds
    AndWanted : (first : Wanted) (others : Wanteds) → Wanteds

mutual
  pub data Shape : Type 0 where
    -- any value of its type, even of a type without values
    Hole : Shape
    -- another literal than any that is written
    OtherLiteral : Shape
    Made : (constructor : List ℕ) (parts : Shapes) → Shape

  pub data Shapes : Type 0 where
    NoShapes : Shapes
    AndShape : (first : Shape) (others : Shapes) → Shapes

abbrev pub wanteds : List Wanted → Wanteds
wanteds [] = NoWanteds
wanteds (w ∷ ws) = AndWanted w (wanteds ws)

abbrev pub shapes : List Shape → Shapes
shapes [] = NoShapes
shapes (s ∷ ss) = AndShape s (shapes ss)

abbrev pub count : Shapes → ℕ
count NoShapes = zero
count (AndShape s ss) = suc (count ss)

abbrev pub holes : ℕ → Shapes
holes zero = NoShapes
holes (suc n) = AndShape Hole (holes n)

-- How much a pattern asks for. It falls with each step into a pattern, so that the functions of the code end.
abbrev mutual
  pub weight : Wanted → ℕ
  weight Anything = zero
  weight Literal = zero
  weight (Wanted.Made union constructor ws) = suc (length union + weights ws)

  pub weights : Wanteds → ℕ
  weights NoWanteds = zero
  weights (AndWanted w ws) = suc (weight w + weights ws)
