-- How terms are made.
use Rattle.std.specs.Prelude.{◌≡◌, ℕ, List, [], ◌∷◌, length}
use Rattle.type_terms.specs.declared.shape.Shape.{Shape}
use Rattle.type_terms.specs.declared.shape.Shape.TheVariants as shape
use Rattle.type_unify.specs.declared.pair.Pair.{Pair}

-- the same head with as many parts; rows and variables have none
abbrev pub SameHead : Shape → Shape → Type 0
SameHead (shape.Opaque m f) (shape.Opaque n g) = (m ≡ n) × (f ≡ g)
SameHead (shape.Named m xs) (shape.Named n ys) = (m ≡ n) × (length xs ≡ length ys)
SameHead (shape.Arrow a b) (shape.Arrow c d) = Unit {0}
SameHead (shape.Tuple xs) (shape.Tuple ys) = length xs ≡ length ys
SameHead _ _ = ⊥

abbrev pub IsVariableShape : Shape → Type 0
IsVariableShape (shape.Variable flag) = Unit {0}
IsVariableShape _ = ⊥

abbrev pub IsRowShape : Shape → Type 0
IsRowShape (shape.Row fields rest) = Unit {0}
IsRowShape _ = ⊥

-- each term with that at its place in the other list
abbrev pub zipped : List ℕ → List ℕ → List Pair
zipped [] ys = []
zipped (x ∷ xs) [] = []
zipped (x ∷ xs) (y ∷ ys) = record { first = x; second = y } ∷ zipped xs ys
