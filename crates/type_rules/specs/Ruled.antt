-- The rules of typing over terms, each of which has one type in a solution.
use Rattle.std.specs.Prelude.{◌≡◌, ℕ, List}
use Rattle.elm_base.specs.declared.term.Literal.{Literal}
use Rattle.elm_typing.specs.Ground.{Ground, Row, Record, Named, NoGrounds}
use Rattle.elm_typing.specs.Names.{signal_of}
use Rattle.elm_typing.specs.Rows.{extended_all}
use Rattle.elm_typing.specs.Sorts.{Sort}
use Rattle.typing_rules.specs.CorePatterns.{literal_type}
use Rattle.typing_rules.specs.Rules.{Called, Extended, FieldOf, Held, Listed, NewestIs, Ranged, Removed}
use Rattle.typing_rules.specs.Worlds.{Types}
use Rattle.typing_rules.specs.WrittenTypes.{Written}
use Rattle.type_terms.specs.Solutions.{Assignment, fields_of}
use Rattle.type_conditions.specs.Judging.{IsWell, Judgement}

-- the one type
abbrev pub One : (ℕ → Sort) → Ground → Types
One chosen wanted type = IsWell chosen type × (type ≡ wanted)

-- the type of the term
abbrev pub Of : (ℕ → Sort) → Assignment → ℕ → Types
Of chosen s at = One chosen (s at)

abbrev pub IsLiteral : Literal → Judgement
IsLiteral value chosen s type = One chosen (literal_type value) type

-- a type without arguments
abbrev pub IsBase : List ℕ → Judgement
IsBase name chosen s type = One chosen (Named name NoGrounds) type

-- the term is such a type
abbrev pub HasBase : List ℕ → ℕ → (ℕ → Sort) → Assignment → Type 0
HasBase name at chosen s = s at ≡ Named name NoGrounds

abbrev pub IsSignalOf : ℕ → Judgement
IsSignalOf value chosen s type = One chosen (signal_of (s value)) type

abbrev pub IsListOf : ℕ → Judgement
IsListOf element chosen s type = IsWell chosen type × Listed (Of chosen s element) type

abbrev pub IsCall : ℕ → ℕ → Judgement
IsCall function argument chosen s type = IsWell chosen type × Called (Of chosen s function) (Of chosen s argument) type

abbrev pub IsRange : ℕ → ℕ → Judgement
IsRange low high chosen s type = IsWell chosen type × Ranged (Of chosen s low) (Of chosen s high) type

abbrev pub IsHeld : Written → ℕ → Judgement
IsHeld written at chosen s type = IsWell chosen type × Held written (Of chosen s at) type

-- fields of these terms over a record
abbrev pub IsExtension : ℕ → List (List ℕ × ℕ) → Judgement
IsExtension from fields chosen s type =
    IsWell chosen type × Extended (Of chosen s from) (λ before row. row ≡ extended_all (fields_of s fields) before) type

abbrev pub IsRemoval : ℕ → List ℕ → Judgement
IsRemoval from label chosen s type = IsWell chosen type × Removed (Of chosen s from) label type

abbrev pub IsField : ℕ → List ℕ → Judgement
IsField from label chosen s type = IsWell chosen type × FieldOf (Of chosen s from) label type

-- the term's type is that of the record's newest field of the label
abbrev pub HasNewest : ℕ → List ℕ → ℕ → (ℕ → Sort) → Assignment → Type 0
HasNewest from label value chosen s =
    (row : Row) × Of chosen s from (Record row) × NewestIs label (Of chosen s value) row
