-- The aliases of a project, and the types that their texts name.
use Rattle.std.specs.Prelude.{ℕ, List, [], ◌∷◌, ◌++◌, map}
use Rattle.std.specs.List.{flat_map}
use Rattle.elm_base.specs.declared.tree.Spot.{Spot}
use Rattle.elm_base.specs.declared.tree.TypeTree.{TypeTree}
use Rattle.elm_base.specs.declared.tree.TypeTree.TheOpen as type
use Rattle.elm_base.specs.declared.tree.TypeTree.TheFolds.{fold-TypeTree}
use Rattle.elm_base.specs.declared.tree.Set.{Set}
use Rattle.elm_base.specs.declared.tree.Expr.{Expr}
use Rattle.elm_base.specs.declared.tree.Module.{Module}
use Rattle.elm_base.specs.declared.tree.Declaration.{Declaration, out-Declaration}
use Rattle.elm_base.specs.declared.tree.Declaration.TheOpen as tree
use Rattle.type_names.specs.declared.known.KnownType.{KnownType}
use Rattle.type_names.specs.declared.answer.TypeAnswer.{TypeAnswer}
use Rattle.type_names.specs.declared.answer.TypeAnswer.TheVariants.{Stands}
use Rattle.type_names.specs.Answers.{Places, answer_of, places_in}
use Rattle.alias_cycles.specs.declared.texts.AliasText.{AliasText}

-- the one type that a name stands for, where it stands for one
abbrev pub found_by : TypeAnswer → List KnownType
found_by (Stands found) = found ∷ []
found_by _ = []

abbrev pub joined : List (List KnownType) → List KnownType
joined lists = flat_map (λ types. types) lists

abbrev pub in_fields : List (Spot × List KnownType) → List KnownType
in_fields fields = flat_map (λ field. field.1) fields

abbrev pub names_step : Places → type.TypeTree-F (List KnownType) → List KnownType
names_step places (type.Named at name arguments) = found_by (answer_of places name) ++ joined arguments
names_step places (type.Arrow at from to) = from ++ to
names_step places (type.Tuple at parts) = joined parts
names_step places (type.Brackets at inner) = inner
names_step places (type.Fields at before fields) = in_fields fields
names_step places _ = []

-- the types that a written type names, arguments included, from left to right
abbrev pub names_in : Places → TypeTree → List KnownType
names_in places = fold-TypeTree (List KnownType) (names_step places)

abbrev pub names_in_all : Places → List TypeTree → List KnownType
names_in_all places trees = joined (map (names_in places) trees)

abbrev pub names_in_fields : Places → List (Spot × TypeTree) → List KnownType
names_in_fields places fields = in_fields (map (λ field. (field.0, names_in places field.1)) fields)

abbrev pub text_of : Places → List ℕ → TypeTree → List AliasText
text_of places name written = record { «module» = places.name; name = name; names = names_in places written } ∷ []

-- the alias that a declaration is, if it is one
abbrev pub alias_layer : Places → tree.Declaration-F Declaration Expr Set → List AliasText
alias_layer places (tree.Alias at name parameters written) = text_of places name.name written
alias_layer places _ = []

abbrev pub alias_of : Places → Declaration → List AliasText
alias_of places declaration = alias_layer places (out-Declaration declaration)

abbrev pub declared : Places → List Declaration → List AliasText
declared places declarations = flat_map (alias_of places) declarations

-- in the order of the module's declarations
abbrev pub aliases_of : List KnownType → Module → List AliasText
aliases_of types «module» = declared (places_in types «module») «module».declarations

-- of a project, which declares these types, in the order of its modules
abbrev pub aliases_in : List KnownType → List Module → List AliasText
aliases_in types modules = flat_map (aliases_of types) modules
