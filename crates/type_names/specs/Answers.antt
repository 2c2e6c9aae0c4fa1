-- What the name of a type stands for: what the module declares hides what its imports give.
use Rattle.std.specs.Prelude.{ℕ, Bool, true, false, ◌&&◌, ◌||◌, Option, Some, None, List, [], ◌∷◌, ◌++◌, codes, bytes_eq, if◌then◌else◌}
use Rattle.std.specs.List.{filter, flat_map, list_all}
use Rattle.elm_base.specs.declared.tree.Exposing.{Exposing}
use Rattle.elm_base.specs.declared.tree.Import.{Import}
use Rattle.elm_base.specs.declared.tree.Module.{Module}
use Rattle.module_names.specs.Defaults.{defaults_for}
use Rattle.module_names.specs.Faces.{shows_type}
use Rattle.module_names.specs.Lookup.{reach_by}
use Rattle.type_names.specs.declared.known.KnownType.{KnownType}
use Rattle.type_names.specs.declared.answer.TypeAnswer.{TypeAnswer}
use Rattle.type_names.specs.declared.answer.TypeAnswer.TheVariants.{Stands, Unknown, Ambiguous}
use Rattle.type_names.specs.declared.scope.TypeScope.{TypeScope}

-- a name behind that of a module, and a point
abbrev pub dotted : List ℕ → List ℕ → List ℕ
dotted «module» name = «module» ++ codes "." ++ name

-- the type belongs to the module that is imported, which shows it
abbrev pub is_offered : List ℕ → KnownType → Bool
is_offered «module» type = bytes_eq type.«module» «module» && type.shown

-- the list of an import picks the type of this name
abbrev pub picks : Option Exposing → List ℕ → Bool
picks None name = false
picks (Some exposes) name = shows_type exposes name

-- the name is that of the type, which the list picks
abbrev pub is_opened : Option Exposing → List ℕ → List ℕ → Bool
is_opened exposes type name = bytes_eq name type && picks exposes type

-- The import gives the type for a name: its list picks it, or it stands behind the name by which the module is reached.
abbrev pub gives : Import → List ℕ → KnownType → Bool
gives import name type =
    is_offered import.«module» type
    && (is_opened import.exposes type.name name || bytes_eq name (dotted (reach_by import.alias import.«module») type.name))

abbrev pub given : List KnownType → List ℕ → Import → List KnownType
given types name import = filter (gives import name) types

-- what imports give for a name
abbrev pub imported : List KnownType → List Import → List ℕ → List KnownType
imported types imports name = flat_map (given types name) imports

-- what the module itself declares by a name
abbrev pub is_own : List ℕ → List ℕ → KnownType → Bool
is_own «module» name type = bytes_eq type.«module» «module» && bytes_eq type.name name

abbrev pub own : List KnownType → List ℕ → List ℕ → List KnownType
own types «module» name = filter (is_own «module» name) types

-- they belong to one module
abbrev pub are_of_one : List ℕ → List KnownType → Bool
are_of_one «module» types = list_all (λ other. bytes_eq other.«module» «module») types

-- types of one name are one type where they belong to one module
abbrev pub settled : List KnownType → TypeAnswer
settled [] = Unknown
settled (first ∷ more) = if are_of_one first.«module» more then Stands first else Ambiguous

abbrev pub own_or : List KnownType → TypeAnswer → TypeAnswer
own_or [] imported = imported
own_or (first ∷ more) imported = Stands first

-- Where the types of a module's texts are looked up: the types of the whole project, the module's name, the imports with which
-- each module begins, and its own.
pub record Places : Type 0 where
  pub types : List KnownType
  pub name : List ℕ
  pub defaults : List Import
  pub imports : List Import

abbrev pub places_of : TypeScope → Places
places_of scope = record { types = scope.types.now; name = scope.name.now; defaults = scope.defaults.now; imports = scope.imports.now }

-- those of a module, where a project declares these types
abbrev pub places_in : List KnownType → Module → Places
places_in types «module» =
    record { types = types; name = «module».name; defaults = defaults_for «module».name; imports = «module».imports }

abbrev pub answer_of : Places → List ℕ → TypeAnswer
answer_of places name =
    own_or (own places.types places.name name)
    (settled (imported places.types places.defaults name ++ imported places.types places.imports name))
