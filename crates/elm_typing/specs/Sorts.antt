-- The two layers of types. A simple value never reaches a signal.
use Rattle.std.specs.Prelude.{◌≡◌, ℕ, if◌then◌else◌}
use Rattle.std.specs.Str.{bytes_eq}
use Rattle.elm_typing.specs.declared.flag.Flag.TheVariants.{Plain}
use Rattle.elm_typing.specs.Ground.{Ground, Grounds, Row, Named, Function, Tuple, Record, Opaque, NoGrounds, AndGround, Ends, Field}
use Rattle.elm_typing.specs.Names.{signal_name}

pub data Sort : Type 0 where
  Simple : Sort
  Signal : Sort

-- simple is below signal
abbrev pub IsAtMost : Sort → Sort → Type 0
IsAtMost Signal Simple = ⊥
IsAtMost _ _ = Unit {0}

-- the sort of a type, where the sorts of the opaque types without flag are chosen
abbrev pub sort_of : (ℕ → Sort) → Ground → Sort
sort_of chosen (Named name arguments) = if bytes_eq name signal_name then Signal else Simple
sort_of chosen (Function argument result) = sort_of chosen result
sort_of chosen (Opaque number Plain) = chosen number
sort_of chosen _ = Simple

-- in each function the argument's sort is at most the result's, and the parts of all other types are simple
abbrev mutual
  pub IsWellSorted : (ℕ → Sort) → Ground → Type 0
  IsWellSorted chosen (Named name arguments) = AreSimple chosen arguments
  IsWellSorted chosen (Function argument result) =
      IsWellSorted chosen argument
      × IsWellSorted chosen result
      × IsAtMost (sort_of chosen argument) (sort_of chosen result)
  IsWellSorted chosen (Tuple parts) = AreSimple chosen parts
  IsWellSorted chosen (Record row) = HasSimpleFields chosen row
  IsWellSorted chosen (Opaque number flag) = Unit {0}

  pub AreSimple : (ℕ → Sort) → Grounds → Type 0
  AreSimple chosen NoGrounds = Unit {0}
  AreSimple chosen (AndGround first others) =
      IsWellSorted chosen first × (sort_of chosen first ≡ Simple) × AreSimple chosen others

  pub HasSimpleFields : (ℕ → Sort) → Row → Type 0
  HasSimpleFields chosen (Ends rest) = Unit {0}
  HasSimpleFields chosen (Field label first others) =
      IsWellSorted chosen first × (sort_of chosen first ≡ Simple) × HasSimpleFields chosen others
