-- The unions that a project declares.
use Rattle.std.specs.Prelude.{ℕ, Bool, ◌&&◌, ◌||◌, List, [], ◌∷◌, map, codes, bytes_eq, if◌then◌else◌}
use Rattle.std.specs.List.{flat_map}
use Rattle.elm_base.specs.declared.project.UnionOf.{UnionOf}
use Rattle.elm_base.specs.declared.tree.Spot.{Spot}
use Rattle.elm_base.specs.declared.tree.Set.{Set}
use Rattle.elm_base.specs.declared.tree.Expr.{Expr}
use Rattle.elm_base.specs.declared.tree.Constructor.{Constructor}
use Rattle.elm_base.specs.declared.tree.TypeTree.{TypeTree}
use Rattle.elm_base.specs.declared.tree.Module.{Module}
use Rattle.elm_base.specs.declared.tree.Declaration.{Declaration, out-Declaration}
use Rattle.elm_base.specs.declared.tree.Declaration.TheOpen as tree
use Rattle.type_names.specs.declared.known.KnownType.{KnownType}
use Rattle.type_names.specs.Answers.{Places, places_in}
use Rattle.alias_expansion.specs.Parts.{found_among}
use Rattle.decl_faults.specs.Sense.{Expands}

abbrev pub names_of : List Spot → List (List ℕ)
names_of spots = map (λ spot. spot.name) spots

abbrev pub basics_name : List ℕ
basics_name = codes "Basics"

abbrev pub bool_name : List ℕ
bool_name = codes "Bool"

abbrev pub order_name : List ℕ
order_name = codes "Order"

abbrev pub plain_constructor : List ℕ → List ℕ × List TypeTree
plain_constructor name = (name, [])

-- a union of Basics whose constructors have no arguments
abbrev pub of_basics : List ℕ → List (List ℕ) → UnionOf
of_basics name constructors =
    record { «module» = basics_name; name = name; parameters = []; constructors = map plain_constructor constructors }

-- Each project has these two.
abbrev pub bool_union : UnionOf
bool_union = of_basics bool_name (codes "True" ∷ codes "False" ∷ [])

abbrev pub order_union : UnionOf
order_union = of_basics order_name (codes "LT" ∷ codes "EQ" ∷ codes "GT" ∷ [])

abbrev pub is_built_in : List ℕ → List ℕ → Bool
is_built_in «module» name = bytes_eq «module» basics_name && (bytes_eq name bool_name || bytes_eq name order_name)

-- what written types stand for
abbrev pub types_of : Expands → Places → List TypeTree → List TypeTree
types_of by places written = found_among (map (by.type places) written)

abbrev pub constructor_of : Expands → Places → Constructor → List ℕ × List TypeTree
constructor_of by places constructor = (constructor.name, types_of by places constructor.arguments)

abbrev pub union_of : Expands → Places → Spot → List Spot → List Constructor → UnionOf
union_of by places name parameters constructors =
    record { «module» = places.name; name = name.name; parameters = names_of parameters; constructors = map (constructor_of by places) constructors }

abbrev pub opaque_of : Places → List ℕ → List (List ℕ) → UnionOf
opaque_of places name parameters = record { «module» = places.name; name = name; parameters = parameters; constructors = [] }

-- The union that a declaration is. A type without structure is a union without constructors.
abbrev pub union_layer : Expands → Places → tree.Declaration-F Declaration Expr Set → List UnionOf
union_layer by places (tree.Union at name parameters constructors) =
    if is_built_in places.name name.name then [] else union_of by places name parameters constructors ∷ []
union_layer by places (tree.Opaque at name parameters) = opaque_of places name parameters ∷ []
union_layer by places _ = []

abbrev pub union_by : Expands → Places → Declaration → List UnionOf
union_by by places declaration = union_layer by places (out-Declaration declaration)

-- in the order of the module's declarations
abbrev pub unions_in : Expands → Places → List Declaration → List UnionOf
unions_in by places declarations = flat_map (union_by by places) declarations

abbrev pub unions_of : Expands → List KnownType → Module → List UnionOf
unions_of by types «module» = unions_in by (places_in types «module») «module».declarations
