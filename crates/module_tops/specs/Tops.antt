-- What a module defines at its top level: values, constructors and the makers of aliases; types apart.
use Rattle.std.specs.Prelude.{ℕ, Bool, true, false, ◌&&◌, not, cond, if◌then◌else◌, Option, is_some, List, [], ◌∷◌, ◌++◌, map, codes, bytes_eq}
use Rattle.std.specs.List.{flat_map}
use Rattle.elm_base.specs.declared.token.At.{At}
use Rattle.elm_base.specs.declared.tree.Spot.{Spot}
use Rattle.elm_base.specs.declared.tree.Constructor.{Constructor}
use Rattle.elm_base.specs.declared.tree.Module.{Module}
use Rattle.elm_base.specs.declared.tree.Set.{Set}
use Rattle.elm_base.specs.declared.tree.Expr.{Expr}
use Rattle.elm_base.specs.declared.tree.TypeTree.{TypeTree}
use Rattle.elm_base.specs.declared.tree.TypeTree.TheOpen as type
use Rattle.elm_base.specs.declared.tree.TypeTree.TheFolds.{fold-TypeTree}
use Rattle.elm_base.specs.declared.tree.Declaration.{Declaration, out-Declaration}
use Rattle.elm_base.specs.declared.tree.Declaration.TheOpen as tree
use Rattle.module_tops.specs.declared.top.Kind.{Kind}
use Rattle.module_tops.specs.declared.top.Kind.TheVariants.{Value, Constructor as Makes, Maker}
use Rattle.module_tops.specs.declared.top.Top.{Top}

abbrev pub spot_of : At → List ℕ → Spot
spot_of at name = record { at = at; name = name }

abbrev pub top_of : Spot → Kind → Top
top_of spot kind = record { spot = spot; kind = kind }

-- whether a written type is a closed record, brackets round it aside
abbrev pub record_step : type.TypeTree-F Bool → Bool
record_step (type.Brackets at inner) = inner
record_step (type.Fields at before fields) = not (is_some before)
record_step _ = false

abbrev pub is_record : TypeTree → Bool
is_record = fold-TypeTree Bool record_step

-- the function of an alias, which one of a closed record has
abbrev pub maker_of : Spot → TypeTree → List Top
maker_of name written = if is_record written then top_of name Maker ∷ [] else []

-- the names of values that a declaration defines
abbrev pub tops_layer : tree.Declaration-F Declaration Expr Set → List Top
tops_layer (tree.Union at name parameters constructors) =
    map (λ constructor. top_of (spot_of constructor.at constructor.name) (Makes name.name)) constructors
tops_layer (tree.Alias at name parameters written) = maker_of name written
tops_layer (tree.Definition at name patterns body) = top_of (spot_of at name) Value ∷ []
tops_layer (tree.PortAnnotation at name written) = top_of name Value ∷ []
tops_layer (tree.PortDefinition at name body) = top_of name Value ∷ []
tops_layer (tree.Native at name written number) = top_of (spot_of at name) Value ∷ []
tops_layer (tree.Device at name written) = top_of (spot_of at name) Value ∷ []
tops_layer _ = []

abbrev pub tops_of_one : Declaration → List Top
tops_of_one declaration = tops_layer (out-Declaration declaration)

abbrev pub port_annotation_layer : tree.Declaration-F Declaration Expr Set → Bool
port_annotation_layer (tree.PortAnnotation at name written) = true
port_annotation_layer _ = false

abbrev pub port_definition_layer : tree.Declaration-F Declaration Expr Set → Bool
port_definition_layer (tree.PortDefinition at name body) = true
port_definition_layer _ = false

abbrev pub is_port_definition : Declaration → Bool
is_port_definition declaration = port_definition_layer (out-Declaration declaration)

-- whether a port is defined by the first of these declarations
abbrev pub port_follows : List Declaration → Bool
port_follows [] = false
port_follows (next ∷ more) = is_port_definition next

-- The annotation of an outbound port, behind which its definition stands: the definition gives the name.
abbrev pub is_of_outbound : Declaration → List Declaration → Bool
is_of_outbound declaration more = port_annotation_layer (out-Declaration declaration) && port_follows more

abbrev pub tops_of : List Declaration → List Top
tops_of [] = []
tops_of (declaration ∷ more) = (if is_of_outbound declaration more then [] else tops_of_one declaration) ++ tops_of more

-- `::`, which the library's List has as a constructor, and no declaration writes
abbrev pub cons_of : List ℕ → List Top
cons_of name = if bytes_eq name (codes "List") then top_of (spot_of (record { line = 0; column = 0 }) (codes "::")) (Makes (codes "List")) ∷ [] else []

abbrev pub tops_of_module : Module → List Top
tops_of_module «module» = cons_of «module».name ++ tops_of «module».declarations

-- the names of types that a declaration defines
abbrev pub types_layer : tree.Declaration-F Declaration Expr Set → List Spot
types_layer (tree.Union at name parameters constructors) = name ∷ []
types_layer (tree.Alias at name parameters written) = name ∷ []
types_layer (tree.Opaque at name parameters) = spot_of at name ∷ []
types_layer _ = []

abbrev pub types_of_one : Declaration → List Spot
types_of_one declaration = types_layer (out-Declaration declaration)

abbrev pub types_of : List Declaration → List Spot
types_of declarations = flat_map types_of_one declarations
