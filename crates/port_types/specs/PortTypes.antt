-- What a port carries, by its type without aliases.
use Rattle.std.specs.Prelude.{ℕ, Bool, true, false, ◌&&◌, Option, Some, None, List, [], ◌∷◌, map, codes, bytes_eq, if◌then◌else◌}
use Rattle.std.specs.List.{flat_map, list_all}
use Rattle.elm_base.specs.declared.event.PortType.{PortType}
use Rattle.elm_base.specs.declared.event.PortType.TheVariants as port
use Rattle.elm_base.specs.declared.tree.Spot.{Spot}
use Rattle.elm_base.specs.declared.tree.TypeTree.{TypeTree, out-TypeTree}
use Rattle.elm_base.specs.declared.tree.TypeTree.TheOpen as type
use Rattle.elm_base.specs.declared.tree.TypeTree.TheFolds.{fold-TypeTree}
use Rattle.elm_typing.specs.Names.{int_name, string_name, list_name, signal_name}
use Rattle.type_names.specs.Texts.{is_number}
use Rattle.port_types.specs.Fields.{all_placed, fields_of}
use Rattle.port_types.specs.Limits.{is_within}

abbrev pub leaf : List ℕ → Option PortType
leaf name =
    if bytes_eq name int_name then Some port.Int
    else (if bytes_eq name (codes "Basics.Bool") then Some port.Bool
    else (if bytes_eq name string_name then Some port.Text else None))

abbrev pub of_one : List ℕ → Option PortType → Option PortType
of_one name None = None
of_one name (Some part) =
    if bytes_eq name (codes "Maybe.Maybe") then Some (port.Maybe part)
    else (if bytes_eq name list_name then Some (port.List part) else None)

abbrev pub named : List ℕ → List (Option PortType) → Option PortType
named name [] = leaf name
named name (part ∷ []) = of_one name part
named name (part ∷ other ∷ more) = None

abbrev pub is_there : Option PortType → Bool
is_there None = false
is_there (Some part) = true

abbrev pub those : Option PortType → List PortType
those None = []
those (Some part) = part ∷ []

abbrev pub all_there : List (Option PortType) → Bool
all_there parts = list_all is_there parts

abbrev pub found_among : List (Option PortType) → List PortType
found_among parts = flat_map those parts

abbrev pub given : Bool → PortType → Option PortType
given true type = Some type
given false type = None

-- a variable that begins with `number` stands for Int
abbrev pub variable : List ℕ → Option PortType
variable name = if is_number name then Some port.Int else None

-- a record with a bar is no type of a port
abbrev pub closed : Option Spot → List (Spot × Option PortType) → Option PortType
closed None fields = fields_of (all_placed (Some []) fields)
closed (Some spot) fields = None

abbrev pub port_step : type.TypeTree-F (Option PortType) → Option PortType
port_step (type.Variable at name) = variable name
port_step (type.Named at name arguments) = named name arguments
port_step (type.Arrow at from to) = None
port_step (type.Unit at) = Some port.Unit
port_step (type.Tuple at parts) = given (all_there parts) (port.Tuple (found_among parts))
port_step (type.Brackets at inner) = inner
port_step (type.Fields at before fields) = closed before fields

-- the type of a port that a type is, if it is one
abbrev pub port_type : TypeTree → Option PortType
port_type = fold-TypeTree (Option PortType) port_step

abbrev pub where_within : Option PortType → Option PortType
where_within None = None
where_within (Some type) = if is_within type then Some type else None

abbrev pub of_signal : List ℕ → List TypeTree → Option PortType
of_signal name [] = None
of_signal name (tree ∷ []) = if bytes_eq name signal_name then where_within (port_type tree) else None
of_signal name (tree ∷ other ∷ more) = None

abbrev pub carried_layer : type.TypeTree-F TypeTree → Option PortType
carried_layer (type.Named at name arguments) = of_signal name arguments
carried_layer _ = None

-- What a port of this type carries: the one argument of `Signal`, where that is the type of a port and within the limits.
abbrev pub carried : TypeTree → Option PortType
carried tree = carried_layer (out-TypeTree tree)

-- ---- for private contracts: one form, and none of another

abbrev pub port_types : List TypeTree → List (Option PortType)
port_types trees = map port_type trees

abbrev pub port_fields : List (Spot × TypeTree) → List (Spot × Option PortType)
port_fields fields = map (λ field. (field.0, port_type field.1)) fields
