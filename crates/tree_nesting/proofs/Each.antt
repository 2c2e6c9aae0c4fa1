-- What holds of each item of a list.
use Rattle.std.proofs.Common.{List, [], ◌∷◌}

abbrev pub Each : {A : Type 0} → (A → Type 0) → List A → Type 0
Each B [] = Unit {0}
Each B (x ∷ xs) = B x × Each B xs
