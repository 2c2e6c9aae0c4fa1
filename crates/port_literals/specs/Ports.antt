-- The types whose literals are told apart.
use Rattle.std.specs.Prelude.{ℕ, suc, max, Bool, true, false, not, ◌&&◌, List, [], ◌∷◌, map}
use Rattle.std.specs.List.{list_all}
use Rattle.std.specs.Str.{bytes_eq}
use Rattle.elm_base.specs.Letters.{is_name_byte}
use Rattle.elm_base.specs.declared.event.PortType.{PortType}
use Rattle.elm_base.specs.declared.event.PortType.TheOpen as type
use Rattle.elm_base.specs.declared.event.PortType.TheFolds.{fold-PortType}

-- a name: letters, digits, underscores and apostrophes, one or more
abbrev pub is_label : List ℕ → Bool
is_label [] = false
is_label (byte ∷ rest) = list_all is_name_byte (byte ∷ rest)

-- a label stands in none of these fields
abbrev pub is_new : {A : Type 0} → List ℕ → List (List ℕ × A) → Bool
is_new label fields = list_all (λ field. not (bytes_eq label field.0)) fields

-- labels are names that differ
abbrev pub are_labels : {A : Type 0} → List (List ℕ × A) → Bool
are_labels [] = true
are_labels (field ∷ fields) = is_label field.0 && is_new field.0 fields && are_labels fields

-- two parts or more
abbrev pub are_several : {A : Type 0} → List A → Bool
are_several (first ∷ second ∷ others) = true
are_several _ = false

abbrev pub port_step : type.PortType-F Bool → Bool
port_step (type.Maybe inner) = inner
port_step (type.List inner) = inner
port_step (type.Tuple parts) = are_several parts && list_all (λ part. part) parts
port_step (type.Fields fields) = are_labels fields && list_all (λ field. field.1) fields
port_step _ = true

-- A tuple has two parts or more, and a record has names for labels, which differ. Each type of a port is so.
abbrev pub is_port : PortType → Bool
is_port = fold-PortType Bool port_step

-- a field with whether its type is such
abbrev pub passed_field : List ℕ × PortType → List ℕ × Bool
passed_field field = (field.0, is_port field.1)

-- ---- how deep a type nests

abbrev pub most : List ℕ → ℕ
most [] = 0
most (first ∷ others) = max first (most others)

-- one more than the most of the parts, and 0 without parts
abbrev pub round_parts : List ℕ → ℕ
round_parts [] = 0
round_parts (first ∷ others) = suc (most (first ∷ others))

abbrev pub nesting_step : type.PortType-F ℕ → ℕ
nesting_step (type.Maybe inner) = suc inner
nesting_step (type.List inner) = suc inner
nesting_step (type.Tuple parts) = round_parts parts
nesting_step (type.Fields fields) = round_parts (map (λ field. field.1) fields)
nesting_step _ = 0

-- How deep types stand in one another.
abbrev pub nesting : PortType → ℕ
nesting = fold-PortType ℕ nesting_step
