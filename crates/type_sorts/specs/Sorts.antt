-- When sorts meet notes.
use Rattle.std.specs.Prelude.{ℕ, List, [], ◌∷◌}
use Rattle.elm_typing.specs.Sorts.{Sort, IsAtMost, sort_of}
use Rattle.type_terms.specs.Solutions.{Assignment}

-- in each note the first term's sort is at most the second one's
abbrev pub Meets : Assignment → (ℕ → Sort) → List (ℕ × ℕ) → Type 0
Meets s chosen [] = Unit {0}
Meets s chosen (note ∷ notes) = IsAtMost (sort_of chosen (s note.0)) (sort_of chosen (s note.1)) × Meets s chosen notes
