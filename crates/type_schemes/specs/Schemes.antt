-- Closed schemes of types, and which types each of them has.
use Rattle.std.specs.Prelude.{◌≡◌, ℕ, suc, ◌<◌, List, [], ◌∷◌, ◌++◌, Option, Some, None, length, slice_index_or}
use Rattle.elm_typing.specs.Ground.{Ground, Row, Record, Ends}
use Rattle.elm_typing.specs.Sorts.{Sort}
use Rattle.type_terms.specs.declared.shape.Shape.{Shape}
use Rattle.type_terms.specs.declared.shape.Shape.TheVariants as shape
use Rattle.type_terms.specs.Depth.{AreNotesBelow, IsBelow}
use Rattle.type_terms.specs.Solutions.{Assignment, Fits}
use Rattle.type_terms.specs.Terms.{Each, parts}
use Rattle.type_sorts.specs.Sorts.{Meets}
use Rattle.type_conditions.specs.Judging.{IsWell}
use Rattle.type_schemes.specs.declared.part.Part.{Part}
use Rattle.type_schemes.specs.declared.part.Part.TheVariants.{Shaped, Rest, Rigid}

-- parts by number, notes that the first one's sort is at most the second one's, and the part whose types they are
pub record Outline : Type 0 where
  pub parts : List Part
  pub notes : List (ℕ × ℕ)
  pub root : ℕ

abbrev pub IsRecord : Ground → Type 0
IsRecord type = (row : Row) × (type ≡ Record row)

-- the type is one of the part, where the parts have the types that r gives them
abbrev pub FitsPart : Assignment → Ground → Part → Type 0
FitsPart r type (Shaped shape) = Fits ⊥ r type shape
FitsPart r type Rest = IsRecord type
FitsPart r type (Rigid number) = type ≡ Record (Ends (Some number))

-- r gives well sorted types that fit to these parts, the first of which has the number k
abbrev pub FitFrom : ℕ → (ℕ → Sort) → Assignment → List Part → Type 0
FitFrom k chosen r [] = Unit {0}
FitFrom k chosen r (p ∷ ps) = IsWell chosen (r k) × FitsPart r (r k) p × FitFrom (suc k) chosen r ps

-- the types that r gives to the parts are as the scheme asks
pub record Chooses (outline : Outline) (chosen : ℕ → Sort) (r : Assignment) : Type 0 where
  pub fit : FitFrom 0 chosen r outline.parts
  pub meets : Meets r chosen outline.notes

-- With these sorts of opaque types the type is one of the scheme's: some types for its parts are as it asks.
abbrev pub HasScheme : (ℕ → Sort) → Outline → Ground → Type 0
HasScheme chosen outline type = (r : Assignment) × Chooses outline chosen r × (r outline.root ≡ type)

-- that a scheme is closed: parts are made of parts before them --

abbrev pub part_at : List Part → ℕ → Part
part_at ps k = slice_index_or ps k Rest

-- the part may end a row
abbrev pub IsRest : Part → Type 0
IsRest (Shaped shape) = ⊥
IsRest _ = Unit {0}

abbrev pub EndsInRest : List Part → Shape → Type 0
EndsInRest before (shape.Row fields (Some rest)) = IsRest (part_at before rest)
EndsInRest before _ = Unit {0}

-- the part is made of these, and a row of it ends in one that may end rows
abbrev pub IsOver : List Part → Part → Type 0
IsOver before (Shaped shape) = Each (IsBelow (length before)) (parts shape) × EndsInRest before shape
IsOver before _ = Unit {0}

-- each part is made of those before it
abbrev pub AreOver : List Part → List Part → Type 0
AreOver before [] = Unit {0}
AreOver before (p ∷ ps) = IsOver before p × AreOver (before ++ p ∷ []) ps

pub record IsClosed (outline : Outline) : Type 0 where
  pub parts : AreOver [] outline.parts
  pub notes : AreNotesBelow (length outline.parts) outline.notes
  pub root : outline.root < length outline.parts

-- the number of what ends a row is below n
abbrev pub MayEnd : ℕ → Option ℕ → Type 0
MayEnd n None = Unit {0}
MayEnd n (Some rest) = rest < n
