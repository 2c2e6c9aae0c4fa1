-- What is wrong at places in the text of a written type.
use Rattle.std.specs.Prelude.{ℕ, Bool, true, false, ◌==◌, nat_eq, if◌then◌else◌, Option, Some, None, List, [], ◌∷◌, ◌++◌, map, length, codes}
use Rattle.std.specs.List.{flat_map, starts_with}
use Rattle.elm_base.specs.declared.token.At.{At}
use Rattle.elm_base.specs.declared.tree.Spot.{Spot}
use Rattle.elm_base.specs.declared.tree.Constructor.{Constructor}
use Rattle.elm_base.specs.declared.tree.TypeTree.{TypeTree}
use Rattle.elm_base.specs.declared.tree.TypeTree.TheOpen as type
use Rattle.elm_base.specs.declared.tree.TypeTree.TheFolds.{fold-TypeTree}
use Rattle.elm_base.specs.declared.tree.Set.{Set}
use Rattle.elm_base.specs.declared.tree.Expr.{Expr}
use Rattle.elm_base.specs.declared.tree.Declaration.{Declaration, out-Declaration}
use Rattle.elm_base.specs.declared.tree.Declaration.TheOpen as tree
use Rattle.module_tops.specs.Picks.{is_named}
use Rattle.module_tops.specs.Tops.{spot_of}
use Rattle.type_names.specs.declared.texts.Variables.{Variables}
use Rattle.type_names.specs.declared.texts.Variables.TheVariants.{Any, Parameters, Numbers}
use Rattle.type_names.specs.declared.answer.TypeAnswer.{TypeAnswer}
use Rattle.type_names.specs.declared.answer.TypeAnswer.TheVariants.{Stands, Unknown, Ambiguous}
use Rattle.type_names.specs.Answers.{Places, answer_of}

-- a variable of this name stands for Int
abbrev pub is_number : List ℕ → Bool
is_number name = starts_with nat_eq name (codes "number")

-- the variable may stand in the type
abbrev pub allows : Variables → List Spot → List ℕ → Bool
allows Any parameters name = true
allows Parameters parameters name = is_named parameters name
allows Numbers parameters name = is_number name

abbrev pub flaw_of_variable : Variables → List Spot → At → List ℕ → List Spot
flaw_of_variable variables parameters at name = if allows variables parameters name then [] else spot_of at name ∷ []

-- the variable before a bar, where one is written
abbrev pub flaw_before : Variables → List Spot → Option Spot → List Spot
flaw_before variables parameters None = []
flaw_before variables parameters (Some spot) = flaw_of_variable variables parameters spot.at spot.name

-- the name stands for one type, which takes so many arguments
abbrev pub stands_with : TypeAnswer → ℕ → Bool
stands_with (Stands found) count = found.takes == count
stands_with Unknown count = false
stands_with Ambiguous count = false

abbrev pub flaw_of_name : Places → At → List ℕ → ℕ → List Spot
flaw_of_name places at name count = if stands_with (answer_of places name) count then [] else spot_of at name ∷ []

abbrev pub joined : List (List Spot) → List Spot
joined lists = flat_map (λ spots. spots) lists

-- in the fields of a record, one behind the other
abbrev pub in_fields : List (Spot × List Spot) → List Spot
in_fields fields = flat_map (λ field. field.1) fields

abbrev pub flaws_step : Places → Variables → List Spot → type.TypeTree-F (List Spot) → List Spot
flaws_step places variables parameters (type.Variable at name) = flaw_of_variable variables parameters at name
flaws_step places variables parameters (type.Named at name arguments) =
    flaw_of_name places at name (length arguments) ++ joined arguments
flaws_step places variables parameters (type.Arrow at from to) = from ++ to
flaws_step places variables parameters (type.Unit at) = []
flaws_step places variables parameters (type.Tuple at parts) = joined parts
flaws_step places variables parameters (type.Brackets at inner) = inner
flaws_step places variables parameters (type.Fields at before fields) =
    flaw_before variables parameters before ++ in_fields fields

-- What is wrong in a written type, from left to right: a name that stands for no one type, one with another number of arguments
-- than its type takes, a variable that may not stand there.
abbrev pub flaws_in : Places → Variables → List Spot → TypeTree → List Spot
flaws_in places variables parameters = fold-TypeTree (List Spot) (flaws_step places variables parameters)

abbrev pub flaws_in_all : Places → Variables → List Spot → List TypeTree → List Spot
flaws_in_all places variables parameters trees = joined (map (flaws_in places variables parameters) trees)

abbrev pub flaws_in_fields : Places → Variables → List Spot → List (Spot × TypeTree) → List Spot
flaws_in_fields places variables parameters fields = in_fields (map (λ field. (field.0, flaws_in places variables parameters field.1)) fields)

-- in a type that may have any variables
abbrev pub flaws_in_any : Places → TypeTree → List Spot
flaws_in_any places = flaws_in places Any []

-- in the arguments of constructors, one constructor after the other
abbrev pub flaws_of_constructors : Places → List Spot → List Constructor → List Spot
flaws_of_constructors places parameters constructors =
    flat_map (λ constructor. flaws_in_all places Parameters parameters constructor.arguments) constructors

-- In the types that a declaration of a module writes. Unions and aliases have their parameters, and no other variables; an
-- annotation, and a port, may have any.
abbrev pub flaws_layer : Places → tree.Declaration-F Declaration Expr Set → List Spot
flaws_layer places (tree.Union at name parameters constructors) = flaws_of_constructors places parameters constructors
flaws_layer places (tree.Alias at name parameters written) = flaws_in places Parameters parameters written
flaws_layer places (tree.Annotation at name written) = flaws_in_any places written
flaws_layer places (tree.PortAnnotation at name written) = flaws_in_any places written
flaws_layer places (tree.Native at name written number) = flaws_in_any places written
flaws_layer places (tree.Device at name written) = flaws_in_any places written
flaws_layer places _ = []

abbrev pub flaws_of : Places → Declaration → List Spot
flaws_of places declaration = flaws_layer places (out-Declaration declaration)

-- in an annotation of a `let`, which has no variables but those that stand for Int
abbrev pub flaws_in_let : Places → TypeTree → List Spot
flaws_in_let places written = flaws_in places Numbers [] written
