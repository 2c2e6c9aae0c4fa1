-- The value of a program that a port's value is, and values placed in an arena.
use Rattle.std.specs.Prelude.{◌≡◌, ◌<◌, ℕ, List, [], ◌∷◌, ◌++◌, length, codes}
use Rattle.elm_base.specs.declared.event.PortValue.{PortValue}
use Rattle.elm_base.specs.declared.event.PortValue.TheOpen as given
use Rattle.elm_base.specs.declared.event.PortValue.TheFolds.{fold-PortValue}
use Rattle.elm_meaning.specs.Answers.{named, truth}
use Rattle.elm_meaning.specs.Records.{put_field}
use Rattle.elm_meaning.specs.Values.{Value, Values, Fields, Int, Text, Nil, Cons, Tuple, Made, Record, NoValues, AndValue, NoFields}
use Rattle.elm_meaning.specs.Values as unit
use Rattle.value_arena.specs.declared.node.Node.{Node}
use Rattle.value_arena.specs.Unfolding.{Lambdas, unfolded}

abbrev pub list_of : List Value → Value
list_of [] = Nil
list_of (value ∷ values) = Cons value (list_of values)

abbrev pub values_of : List Value → Values
values_of [] = NoValues
values_of (value ∷ values) = AndValue value (values_of values)

-- the record with these fields, each put over those behind it
abbrev pub record_of : List (List ℕ × Value) → Fields
record_of [] = NoFields
record_of (field ∷ fields) = put_field field.0 field.1 (record_of fields)

abbrev pub placed_step : given.PortValue-F Value → Value
placed_step given.Unit = unit.Unit
placed_step (given.Int number) = Int number
placed_step (given.Bool is) = truth is
placed_step (given.Text bytes) = Text bytes
placed_step given.Nothing = named (codes "Nothing")
placed_step (given.Just inner) = Made (codes "Just") (AndValue inner NoValues)
placed_step (given.List parts) = list_of parts
placed_step (given.Tuple parts) = Tuple (values_of parts)
placed_step (given.Fields fields) = Record (record_of fields)

-- A truth is its constructor, `Just` and `Nothing` are theirs, and a record has its fields by label.
abbrev pub placed : PortValue → Value
placed = fold-PortValue Value placed_step

abbrev pub placed_field : List ℕ × PortValue → List ℕ × Value
placed_field field = (field.0, placed field.1)

-- ---- the arena

-- the value stands at the place, whatever the functions of closures are
abbrev pub IsPlaced : List Node → Value → ℕ → Type 0
IsPlaced nodes value at = (at < length nodes) × ((lambdas : Lambdas) → unfolded lambdas nodes at ≡ value)

-- nodes are added, and what stood there unfolds as before
pub record Grows (old new : List Node) : Type 0 where
  pub added : List Node
  pub whole : new ≡ old ++ added
  pub kept : (lambdas : Lambdas) (at : ℕ) → at < length old → unfolded lambdas new at ≡ unfolded lambdas old at

abbrev pub ArePlaced : List Node → List Value → List ℕ → Type 0
ArePlaced nodes [] [] = Unit {0}
ArePlaced nodes (value ∷ values) (at ∷ refs) = IsPlaced nodes value at × ArePlaced nodes values refs
ArePlaced nodes _ _ = ⊥

abbrev pub FieldsPlaced : List Node → List (List ℕ × Value) → List (List ℕ × ℕ) → Type 0
FieldsPlaced nodes [] [] = Unit {0}
FieldsPlaced nodes (field ∷ fields) (ref ∷ refs) = (field.0 ≡ ref.0) × IsPlaced nodes field.1 ref.1 × FieldsPlaced nodes fields refs
FieldsPlaced nodes _ _ = ⊥
