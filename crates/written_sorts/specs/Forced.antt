-- The variables that have to be of sort signal. An argument of sort signal makes its function's result one.
use Rattle.std.specs.Prelude.{◌≡◌, ℕ, Bool, true, false, Option, List, [], ◌∷◌, ◌++◌, bytes_eq}
use Rattle.std.specs.List.{list_any}
use Rattle.typing_rules.specs.WrittenTypes.{Written, Writtens, WrittenFields, Variable, Named, Arrow, Tuple, Fields, NoWrittens, AndWritten, NoWrittenFields, AndWrittenField}
use Rattle.written_sorts.specs.Marks.{Marks, is_signal, holds}

-- these variables are of sort signal, and no others
abbrev pub is_called : List ℕ → List ℕ → Bool
is_called name other = bytes_eq other name

abbrev pub marks_of : List (List ℕ) → Marks
marks_of names name = list_any (is_called name) names

-- the variable in which a type ends
abbrev pub end_of : Written → List (List ℕ)
end_of (Variable name) = name ∷ []
end_of (Named name arguments) = []
end_of (Arrow argument result) = end_of result
end_of (Tuple parts) = []
end_of (Fields before fields) = []

abbrev pub where_signal : Bool → List (List ℕ) → List (List ℕ)
where_signal true names = names
where_signal false names = []

-- where an argument is of sort signal, the variable in which the result ends
abbrev mutual
  pub forced : Marks → Written → List (List ℕ)
  forced marks (Variable name) = []
  forced marks (Named name arguments) = forced_all marks arguments
  forced marks (Arrow argument result) =
      forced marks argument ++ (forced marks result ++ where_signal (is_signal marks argument) (end_of result))
  forced marks (Tuple parts) = forced_all marks parts
  forced marks (Fields before fields) = forced_fields marks fields

  pub forced_all : Marks → Writtens → List (List ℕ)
  forced_all marks NoWrittens = []
  forced_all marks (AndWritten first others) = forced marks first ++ forced_all marks others

  pub forced_fields : Marks → WrittenFields → List (List ℕ)
  forced_fields marks NoWrittenFields = []
  forced_fields marks (AndWrittenField label type others) = forced marks type ++ forced_fields marks others

-- each of these is of sort signal
abbrev pub AllMarked : Marks → List (List ℕ) → Type 0
AllMarked marks [] = Unit {0}
AllMarked marks (name ∷ names) = (marks name ≡ true) × AllMarked marks names

-- whatever sorts make the type well sorted, these variables are of sort signal
abbrev pub AreForced : Written → List (List ℕ) → Type 0
AreForced written names = (marks : Marks) → holds marks written ≡ true → AllMarked marks names
