-- Which written types make sense: those of which some instance is well sorted, and in which each variable before a bar is free.
use Rattle.std.specs.Prelude.{◌≡◌, ℕ, Bool, true, false, ◌&&◌, not, Option, Some, None, List, codes}
use Rattle.elm_typing.specs.declared.flag.Flag.{Flag}
use Rattle.elm_typing.specs.declared.flag.Flag.TheVariants.{Plain, Comparable, Appendable, Both}
use Rattle.elm_typing.specs.Sorts.{Sort, IsWellSorted}
use Rattle.typing_rules.specs.WrittenTypes.{Written, Writtens, WrittenFields, Variable, Named, Arrow, Tuple, Fields, NoWrittens, AndWritten, NoWrittenFields, AndWrittenField, Choice, begins, flag_of, Respects, instance_at}

-- Some instance of the type, in which each variable stands for a type that its name allows, is well sorted.
pub record HasWellSorted (written : Written) : Type 0 where
  pub sorts : ℕ → Sort
  pub choice : Choice
  pub respects : Respects choice written
  pub sorted : IsWellSorted sorts (instance_at choice written)

abbrev pub is_plain : Flag → Bool
is_plain Plain = true
is_plain Comparable = false
is_plain Appendable = false
is_plain Both = false

-- a variable that may stand for any type: its name has no flag, and doesn't begin with `number`
abbrev pub is_free : List ℕ → Bool
is_free name = not (begins (codes "number") name) && is_plain (flag_of name)

abbrev pub free_before : Option (List ℕ) → Bool
free_before None = true
free_before (Some name) = is_free name

-- each variable before a bar is free
abbrev mutual
  pub bars_hold : Written → Bool
  bars_hold (Variable name) = true
  bars_hold (Named name arguments) = bars_hold_all arguments
  bars_hold (Arrow argument result) = bars_hold argument && bars_hold result
  bars_hold (Tuple parts) = bars_hold_all parts
  bars_hold (Fields before fields) = free_before before && bars_hold_fields fields

  pub bars_hold_all : Writtens → Bool
  bars_hold_all NoWrittens = true
  bars_hold_all (AndWritten first others) = bars_hold first && bars_hold_all others

  pub bars_hold_fields : WrittenFields → Bool
  bars_hold_fields NoWrittenFields = true
  bars_hold_fields (AndWrittenField label type others) = bars_hold type && bars_hold_fields others

-- A written type that isn't refused for its sorts or bars.
pub record MakesSense (written : Written) : Type 0 where
  pub bars : bars_hold written ≡ true
  pub sorted : HasWellSorted written
