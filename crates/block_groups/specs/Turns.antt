-- Lists that are made in turn, one for each of several things.
use Rattle.std.specs.Prelude.{◌≡◌, List, [], ◌∷◌, ◌++◌}

-- what these give, each by a relation, one list behind the other
abbrev pub InTurn : {A B : Type 0} → (A → List B → Type 0) → List A → List B → Type 0
InTurn gives [] all = all ≡ []
InTurn {A} {B} gives (x ∷ more) all = (own : List B) × (others : List B) × gives x own × InTurn gives more others × (all ≡ own ++ others)

-- what is appended is as this says
abbrev pub Appends : {B : Type 0} → (List B → Type 0) → List B → List B → Type 0
Appends {B} fits old new = (more : List B) × fits more × (new ≡ old ++ more)
