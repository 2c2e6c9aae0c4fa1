-- The types that the modules of a project declare.
use Rattle.std.specs.Prelude.{ℕ, Bool, true, false, List, [], ◌∷◌, length}
use Rattle.std.specs.List.{flat_map}
use Rattle.elm_base.specs.declared.tree.Exposing.{Exposing}
use Rattle.elm_base.specs.declared.tree.Set.{Set}
use Rattle.elm_base.specs.declared.tree.Expr.{Expr}
use Rattle.elm_base.specs.declared.tree.Module.{Module}
use Rattle.elm_base.specs.declared.tree.Declaration.{Declaration, out-Declaration}
use Rattle.elm_base.specs.declared.tree.Declaration.TheOpen as tree
use Rattle.module_names.specs.Faces.{shows_type}
use Rattle.type_names.specs.declared.known.KnownType.{KnownType}

abbrev pub known_as : List ℕ → Exposing → List ℕ → ℕ → Bool → KnownType
known_as «module» exposes name takes alias =
    record { «module» = «module»; name = name; takes = takes; alias = alias; shown = shows_type exposes name }

-- the type that a declaration declares: a union, an alias, or a type of the library without structure
abbrev pub known_layer : List ℕ → Exposing → tree.Declaration-F Declaration Expr Set → List KnownType
known_layer «module» exposes (tree.Union at name parameters constructors) = known_as «module» exposes name.name (length parameters) false ∷ []
known_layer «module» exposes (tree.Alias at name parameters written) = known_as «module» exposes name.name (length parameters) true ∷ []
known_layer «module» exposes (tree.Opaque at name parameters) = known_as «module» exposes name (length parameters) false ∷ []
known_layer «module» exposes _ = []

abbrev pub known_by : List ℕ → Exposing → Declaration → List KnownType
known_by «module» exposes declaration = known_layer «module» exposes (out-Declaration declaration)

-- in the order of the module's declarations
abbrev pub known_of : Module → List KnownType
known_of «module» = flat_map (known_by «module».name «module».exposes) «module».declarations

-- of a project, in the order of its modules
abbrev pub known_in : List Module → List KnownType
known_in modules = flat_map known_of modules
