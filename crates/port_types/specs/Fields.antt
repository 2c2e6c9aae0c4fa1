-- The fields of a record that a port carries stand in byte order of their labels, and no label stands twice.
use Rattle.std.specs.Prelude.{◌≡◌, ℕ, suc, Bool, true, false, Option, Some, None, List, [], ◌∷◌, bytes_eq, if◌then◌else◌}
use Rattle.std.specs.List.{list_any, insert}
use Rattle.elm_base.specs.declared.event.PortType.{PortType}
use Rattle.elm_base.specs.declared.event.PortType.TheVariants as port
use Rattle.elm_base.specs.declared.tree.Spot.{Spot}
use Rattle.elm_typing.specs.Labels.{is_after}

abbrev pub has_label : List ℕ → List ℕ × PortType → Bool
has_label label field = bytes_eq field.0 label

-- how many fields stand before a new one of this label: those whose labels come before it
abbrev pub place_of : List ℕ → List (List ℕ × PortType) → ℕ
place_of label [] = 0
place_of label (field ∷ fields) = if is_after label field.0 then suc (place_of label fields) else 0

-- a field more, behind those whose labels come before its own; none where its label stands there already
abbrev pub placed : List ℕ → PortType → List (List ℕ × PortType) → Option (List (List ℕ × PortType))
placed label type fields =
    if list_any (has_label label) fields then None else Some (insert fields (place_of label fields) (label, type))

abbrev pub placed_if : List ℕ → Option PortType → List (List ℕ × PortType) → Option (List (List ℕ × PortType))
placed_if label None fields = None
placed_if label (Some type) fields = placed label type fields

abbrev pub one_more : Option (List (List ℕ × PortType)) → Spot × Option PortType → Option (List (List ℕ × PortType))
one_more None field = None
one_more (Some fields) field = placed_if field.0.name field.1 fields

-- these fields, and further ones as they are written
abbrev pub all_placed : Option (List (List ℕ × PortType)) → List (Spot × Option PortType) → Option (List (List ℕ × PortType))
all_placed placed [] = placed
all_placed placed (field ∷ fields) = all_placed (one_more placed field) fields

abbrev pub fields_of : Option (List (List ℕ × PortType)) → Option PortType
fields_of None = None
fields_of (Some fields) = Some (port.Fields fields)

-- ---- for private contracts: whether a field was placed

abbrev pub Placed : Bool → Option (List (List ℕ × PortType)) → List (List ℕ × PortType) → Type 0
Placed true found fields = found ≡ Some fields
Placed false found fields = found ≡ None
