-- For private contracts: whether a written type makes sense, as a function. It tries each choice of variables of sort signal.
use Rattle.std.specs.Prelude.{ℕ, Bool, ◌&&◌, Option, Some, None, List, [], ◌∷◌, ◌++◌, map}
use Rattle.std.specs.List.{list_any}
use Rattle.elm_base.specs.declared.tree.TypeTree.{TypeTree}
use Rattle.typing_rules.specs.WrittenTypes.{Written, Writtens, WrittenFields, Variable, Named, Arrow, Tuple, Fields, NoWrittens, AndWritten, NoWrittenFields, AndWrittenField}
use Rattle.written_sorts.specs.Sorting.{bars_hold}
use Rattle.written_sorts.specs.Marks.{holds}
use Rattle.written_sorts.specs.Forced.{marks_of}
use Rattle.type_sense.specs.WrittenOf.{written_of}

abbrev pub of_before : Option (List ℕ) → List (List ℕ)
of_before None = []
of_before (Some name) = name ∷ []

-- the variables of a written type, those before bars among them
abbrev mutual
  pub variables : Written → List (List ℕ)
  variables (Variable name) = name ∷ []
  variables (Named name arguments) = variables_of arguments
  variables (Arrow argument result) = variables argument ++ variables result
  variables (Tuple parts) = variables_of parts
  variables (Fields before fields) = of_before before ++ variables_in fields

  pub variables_of : Writtens → List (List ℕ)
  variables_of NoWrittens = []
  variables_of (AndWritten first others) = variables first ++ variables_of others

  pub variables_in : WrittenFields → List (List ℕ)
  variables_in NoWrittenFields = []
  variables_in (AndWrittenField label type others) = variables type ++ variables_in others

-- each choice of some of these
abbrev pub choices : List (List ℕ) → List (List (List ℕ))
choices [] = [] ∷ []
choices (name ∷ names) = map (λ choice. name ∷ choice) (choices names) ++ choices names

abbrev pub can_be_sorted : Written → Bool
can_be_sorted written = list_any (λ choice. holds (marks_of choice) written) (choices (variables written))

abbrev pub makes_sense : Written → Bool
makes_sense written = bars_hold written && can_be_sorted written

abbrev pub sensible : TypeTree → Bool
sensible type = makes_sense (written_of type)
