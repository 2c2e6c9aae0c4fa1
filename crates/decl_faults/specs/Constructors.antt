-- The function of a constructor as a whole, for the law that its arguments may be judged one by one.
use Rattle.std.specs.Prelude.{ℕ, List, [], ◌∷◌, map}
use Rattle.std.specs.List.{Contains}
use Rattle.typing_rules.specs.WrittenTypes.{Written, Variable, Named, Arrow}
use Rattle.typing_rules.specs.Library.{writtens}
use Rattle.written_sorts.specs.Sorting.{MakesSense}
use Rattle.decl_faults.specs.Deciding.{variables}

-- a union of this name at its parameters
abbrev pub union_at : List ℕ → List (List ℕ) → Written
union_at name parameters = Named name (writtens (map (λ parameter. Variable parameter) parameters))

-- the function from all arguments of a constructor to its union
abbrev pub function_to : Written → List Written → Written
function_to union [] = union
function_to union (argument ∷ more) = Arrow argument (function_to union more)

-- the function from each of them makes sense
abbrev pub EachMakesSense : Written → List Written → Type 0
EachMakesSense union [] = Unit {0}
EachMakesSense union (argument ∷ more) = MakesSense (Arrow argument union) × EachMakesSense union more

-- each variable in them is a parameter of the union
abbrev pub HaveParameters : List (List ℕ) → List Written → Type 0
HaveParameters parameters [] = Unit {0}
HaveParameters parameters (argument ∷ more) =
    ((name : List ℕ) → Contains (variables argument) name → Contains parameters name) × HaveParameters parameters more
