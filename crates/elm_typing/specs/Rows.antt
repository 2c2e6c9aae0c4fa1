-- Rows with scoped labels: of one label a row may have several fields, of which the newest hides the others.
use Rattle.std.specs.Prelude.{◌≢◌, ℕ, Option, Some, None, List, [], ◌∷◌, if◌then◌else◌}
use Rattle.std.specs.Str.{bytes_eq}
use Rattle.elm_typing.specs.Ground.{Ground, Row, Ends, Field}
use Rattle.elm_typing.specs.Labels.{is_after}

-- the row with a new field over the fields of the same label
abbrev pub extended : List ℕ → Ground → Row → Row
extended label type (Ends rest) = Field label type (Ends rest)
extended label type (Field other t row) =
    if is_after label other then Field other t (extended label type row) else Field label type (Field other t row)

-- several fields over a row, of which the first of a label is the newest
abbrev pub extended_all : List (List ℕ × Ground) → Row → Row
extended_all [] row = row
extended_all (f ∷ fs) row = extended f.0 f.1 (extended_all fs row)

-- the map that a row stands for: the types of each label, the newest first
abbrev pub types_of : List ℕ → Row → List Ground
types_of label (Ends rest) = []
types_of label (Field other type row) = if bytes_eq label other then type ∷ types_of label row else types_of label row

-- the opaque rest, where there is one
abbrev pub rest_of : Row → Option ℕ
rest_of (Ends rest) = rest
rest_of (Field label type row) = rest_of row

-- the type of the newest field of a label
abbrev pub newest : List ℕ → Row → Option Ground
newest label (Ends rest) = None
newest label (Field other type row) = if bytes_eq label other then Some type else newest label row

abbrev pub behind : List ℕ → Ground → Option Row → Option Row
behind label type None = None
behind label type (Some row) = Some (Field label type row)

-- the newest field of a label is taken away; None where there is no such field
abbrev pub removed : List ℕ → Row → Option Row
removed label (Ends rest) = None
removed label (Field other type row) = if bytes_eq label other then Some row else behind other type (removed label row)

-- no field has the label
abbrev pub Lacks : List ℕ → List (List ℕ × Ground) → Type 0
Lacks label [] = Unit {0}
Lacks label (f ∷ fs) = (label ≢ f.0) × Lacks label fs

-- no label stands in both
abbrev pub Apart : List (List ℕ × Ground) → List (List ℕ × Ground) → Type 0
Apart [] gs = Unit {0}
Apart (f ∷ fs) gs = Lacks f.0 gs × Apart fs gs
