-- Schemes of the worked cases.
use Rattle.std.specs.Prelude.{ℕ, List, [], ◌∷◌, Some, None, codes, slice_index_or}
use Rattle.elm_typing.specs.declared.flag.Flag.TheVariants.{Plain, Comparable}
use Rattle.elm_typing.specs.Ground.{Ground, Tuple as TupleGround, NoGrounds}
use Rattle.type_terms.specs.declared.shape.Shape.TheVariants.{Variable, Arrow, Tuple, Row}
use Rattle.type_terms.specs.Solutions.{Assignment}
use Rattle.type_schemes.specs.declared.part.Part.{Part}
use Rattle.type_schemes.specs.declared.part.Part.TheVariants.{Shaped, Rest, Rigid}
use Rattle.type_schemes.specs.Schemes.{Outline}

abbrev pub outline : List Part → List (ℕ × ℕ) → ℕ → Outline
outline parts notes root = record { parts = parts; notes = notes; root = root }

-- a → a
abbrev pub same_to_same : Outline
same_to_same = outline (Shaped (Variable Plain) ∷ Shaped (Arrow 0 0) ∷ []) [] 1

-- a → b, where a and b are two variables
abbrev pub any_to_any : Outline
any_to_any = outline (Shaped (Variable Plain) ∷ Shaped (Variable Plain) ∷ Shaped (Arrow 0 1) ∷ []) [] 2

-- comparable
abbrev pub ordered : Outline
ordered = outline (Shaped (Variable Comparable) ∷ []) [] 0

-- a, whose sort is at most that of ()
abbrev pub simple_alone : Outline
simple_alone = outline (Shaped (Variable Plain) ∷ Shaped (Tuple []) ∷ []) ((0, 1) ∷ []) 0

-- { r | x : a }
abbrev pub with_x : Outline
with_x = outline (Rest ∷ Shaped (Variable Plain) ∷ Shaped (Row ((codes "x", 1) ∷ []) (Some 0)) ∷ []) [] 2

-- the record without fields over the opaque rest of a number
abbrev pub over_rest : ℕ → Outline
over_rest number = outline (Rigid number ∷ []) [] 0

-- types by number
abbrev pub typed : List Ground → Assignment
typed types k = slice_index_or types k (TupleGround NoGrounds)
