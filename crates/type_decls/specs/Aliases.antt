-- The aliases that a project declares.
use Rattle.std.specs.Prelude.{Option, Some, None, List, [], ◌∷◌}
use Rattle.std.specs.List.{flat_map}
use Rattle.elm_base.specs.declared.project.AliasOf.{AliasOf}
use Rattle.elm_base.specs.declared.tree.Spot.{Spot}
use Rattle.elm_base.specs.declared.tree.Set.{Set}
use Rattle.elm_base.specs.declared.tree.Expr.{Expr}
use Rattle.elm_base.specs.declared.tree.TypeTree.{TypeTree}
use Rattle.elm_base.specs.declared.tree.Module.{Module}
use Rattle.elm_base.specs.declared.tree.Declaration.{Declaration, out-Declaration}
use Rattle.elm_base.specs.declared.tree.Declaration.TheOpen as tree
use Rattle.type_names.specs.declared.known.KnownType.{KnownType}
use Rattle.type_names.specs.Answers.{Places, places_in}
use Rattle.decl_faults.specs.Sense.{Expands}
use Rattle.type_decls.specs.Unions.{names_of}

-- an alias whose text stands for this type, if it does for one
abbrev pub alias_of : Places → Spot → List Spot → Option TypeTree → List AliasOf
alias_of places name parameters None = []
alias_of places name parameters (Some type) =
    record { «module» = places.name; name = name.name; parameters = names_of parameters; written = type } ∷ []

abbrev pub alias_layer : Expands → Places → tree.Declaration-F Declaration Expr Set → List AliasOf
alias_layer by places (tree.Alias at name parameters written) = alias_of places name parameters (by.type places written)
alias_layer by places _ = []

abbrev pub alias_by : Expands → Places → Declaration → List AliasOf
alias_by by places declaration = alias_layer by places (out-Declaration declaration)

-- in the order of the module's declarations
abbrev pub aliases_in : Expands → Places → List Declaration → List AliasOf
aliases_in by places declarations = flat_map (alias_by by places) declarations

abbrev pub aliases_of : Expands → List KnownType → Module → List AliasOf
aliases_of by types «module» = aliases_in by (places_in types «module») «module».declarations
