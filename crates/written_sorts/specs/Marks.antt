-- The same told of variables alone: which of them are of sort signal.
use Rattle.std.specs.Prelude.{◌≡◌, ℕ, Bool, true, false, ◌&&◌, not, Option, Some, None, List, bytes_eq}
use Rattle.elm_typing.specs.Names.{signal_name}
use Rattle.typing_rules.specs.WrittenTypes.{Written, Writtens, WrittenFields, Variable, Named, Arrow, Tuple, Fields, NoWrittens, AndWritten, NoWrittenFields, AndWrittenField}
use Rattle.written_sorts.specs.Sorting.{is_free}

-- a sort for each variable: true is signal
abbrev pub Marks : Type 0
Marks = List ℕ → Bool

-- the type is of sort signal
abbrev pub is_signal : Marks → Written → Bool
is_signal marks (Variable name) = marks name
is_signal marks (Named name arguments) = bytes_eq name signal_name
is_signal marks (Arrow argument result) = is_signal marks result
is_signal marks (Tuple parts) = false
is_signal marks (Fields before fields) = false

-- the one sort is at most the other
abbrev pub at_most : Bool → Bool → Bool
at_most true other = other
at_most false other = true

abbrev pub simple_before : Marks → Option (List ℕ) → Bool
simple_before marks None = true
simple_before marks (Some name) = not (marks name)

-- A variable of sort signal is free. In each function the argument's sort is at most the result's, and the parts of all other
-- types, and what stands before a bar, are simple.
abbrev mutual
  pub holds : Marks → Written → Bool
  holds marks (Variable name) = at_most (marks name) (is_free name)
  holds marks (Named name arguments) = all_simple marks arguments
  holds marks (Arrow argument result) =
      holds marks argument && (holds marks result && at_most (is_signal marks argument) (is_signal marks result))
  holds marks (Tuple parts) = all_simple marks parts
  holds marks (Fields before fields) = simple_before marks before && fields_simple marks fields

  pub all_simple : Marks → Writtens → Bool
  all_simple marks NoWrittens = true
  all_simple marks (AndWritten first others) = holds marks first && (not (is_signal marks first) && all_simple marks others)

  pub fields_simple : Marks → WrittenFields → Bool
  fields_simple marks NoWrittenFields = true
  fields_simple marks (AndWrittenField label type others) = holds marks type && (not (is_signal marks type) && fields_simple marks others)

-- some choice of sorts for its variables makes it well sorted
abbrev pub CanBeSorted : Written → Type 0
CanBeSorted written = (marks : Marks) × (holds marks written ≡ true)
