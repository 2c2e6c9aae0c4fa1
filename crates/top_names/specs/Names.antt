-- The names at the top level of a project, with the numbers by which its code knows them.
use Rattle.std.specs.Prelude.{ℕ, suc, Bool, true, false, if◌then◌else◌, Option, Some, None, List, [], ◌∷◌, ◌++◌, map, bytes_eq}
use Rattle.std.specs.List.{flat_map}
use Rattle.elm_base.specs.declared.token.At.{At}
use Rattle.elm_base.specs.declared.project.Group.{Group}
use Rattle.elm_base.specs.declared.tree.Set.{Set}
use Rattle.elm_base.specs.declared.tree.Expr.{Expr}
use Rattle.elm_base.specs.declared.tree.Module.{Module}
use Rattle.elm_base.specs.declared.tree.Declaration.{Declaration, out-Declaration}
use Rattle.elm_base.specs.declared.tree.Declaration.TheOpen as tree
use Rattle.plain_form.specs.Naming.{same_place}
use Rattle.core_names.specs.declared.tops.TopName.{TopName}
use Rattle.core_names.specs.declared.tops.TopThing.TheVariants as top

-- ---- top values: definitions, ports and devices, in the order of the groups

-- what a declaration defines a value by, with its place
abbrev pub named_layer : tree.Declaration-F Declaration Expr Set → Option (At × List ℕ)
named_layer (tree.Definition at name patterns body) = Some (at, name)
named_layer (tree.PortDefinition at name body) = Some (at, name.name)
named_layer (tree.PortAnnotation at name written) = Some (at, name.name)
named_layer (tree.Device at name written) = Some (at, name)
named_layer _ = None

abbrev pub where_placed : At → Option (At × List ℕ) → Option (List ℕ)
where_placed at None = None
where_placed at (Some named) = if same_place named.0 at then Some named.1 else None

-- the name that the declaration defines, where it stands at this place
abbrev pub defined_at : At → Declaration → Option (List ℕ)
defined_at at declaration = where_placed at (named_layer (out-Declaration declaration))

abbrev pub first_of : Option (List ℕ) → Option (List ℕ) → Option (List ℕ)
first_of (Some name) other = Some name
first_of None other = other

abbrev pub name_at : At → List Declaration → Option (List ℕ)
name_at at [] = None
name_at at (declaration ∷ more) = first_of (defined_at at declaration) (name_at at more)

abbrev pub or_nothing : Option (List ℕ) → List ℕ
or_nothing None = []
or_nothing (Some name) = name

-- the name of the definition at a place of the module of this name
abbrev pub name_in : List Module → List ℕ → At → List ℕ
name_in [] home at = []
name_in (m ∷ ms) home at = if bytes_eq m.name home then or_nothing (name_at at m.declarations) else name_in ms home at

-- a module's top level stands at line 0, column 0
abbrev pub nowhere : At
nowhere = record { line = 0; column = 0 }

abbrev pub of_group : Group → List (List ℕ × At)
of_group group = if same_place group.block nowhere then map (λ at. (group.«module», at)) group.members else []

abbrev pub values_in : List Group → List (List ℕ × At)
values_in groups = flat_map of_group groups

abbrev pub value_of : List Module → ℕ → List ℕ × At → TopName
value_of modules number value = record { «module» = value.0; name = name_in modules value.0 value.1; thing = top.Value number }

-- numbered one after the other
abbrev pub values_from : List Module → ℕ → List (List ℕ × At) → List TopName
values_from modules number [] = []
values_from modules number (value ∷ more) = value_of modules number value ∷ values_from modules (suc number) more

-- ---- natives, with the numbers that the library gives them

abbrev pub native_layer : List ℕ → tree.Declaration-F Declaration Expr Set → List TopName
native_layer home (tree.Native at name written number) = record { «module» = home; name = name; thing = top.Native number } ∷ []
native_layer home _ = []

abbrev pub native_of : List ℕ → Declaration → List TopName
native_of home declaration = native_layer home (out-Declaration declaration)

abbrev pub natives_of : Module → List TopName
natives_of m = flat_map (native_of m.name) m.declarations

abbrev pub natives_in : List Module → List TopName
natives_in modules = flat_map natives_of modules

-- ---- both

abbrev pub names_of : List Module → List Group → List TopName
names_of modules groups = values_from modules 0 (values_in groups) ++ natives_in modules
