-- Where the variables of a written type stand.
use Rattle.std.specs.Prelude.{ℕ, Bool, true, false, Some, None, List, [], ◌∷◌, ◌++◌}
use Rattle.elm_typing.specs.Ground.{Ground}
use Rattle.typing_rules.specs.WrittenTypes.{Written, Writtens, WrittenFields, Variable, Named, Arrow, Tuple, Fields, NoWrittens, AndWritten, NoWrittenFields, AndWrittenField, Choice, Allows, IsRecord}
use Rattle.type_instances.specs.declared.uses.Use.{Use}

abbrev pub use_of : Bool → List ℕ → Use
use_of before name = record { name = name; before = before }

-- each place of a variable, in order
abbrev mutual
  pub uses : Written → List Use
  uses (Variable name) = use_of false name ∷ []
  uses (Named name arguments) = uses_in arguments
  uses (Arrow argument result) = uses argument ++ uses result
  uses (Tuple parts) = uses_in parts
  uses (Fields None fields) = uses_in_fields fields
  uses (Fields (Some name) fields) = use_of true name ∷ uses_in_fields fields

  pub uses_in : Writtens → List Use
  uses_in NoWrittens = []
  uses_in (AndWritten first others) = uses first ++ uses_in others

  pub uses_in_fields : WrittenFields → List Use
  uses_in_fields NoWrittenFields = []
  uses_in_fields (AndWrittenField label type others) = uses type ++ uses_in_fields others

abbrev pub EachUse : (Use → Type 0) → List Use → Type 0
EachUse P [] = Unit {0}
EachUse P (u ∷ us) = P u × EachUse P us

-- what a place asks of the type that its variable stands for
abbrev pub AllowsAt : Bool → List ℕ → Ground → Type 0
AllowsAt false name type = Allows name type
AllowsAt true name type = IsRecord type

abbrev pub AllowsUse : Choice → Use → Type 0
AllowsUse choice u = AllowsAt u.before u.name (choice u.name)
