-- Whether two types of ports are the same, as a function.
use Rattle.std.specs.Prelude.{ℕ, Bool, true, false, ◌&&◌, List, [], ◌∷◌}
use Rattle.std.specs.Str.{bytes_eq}
use Rattle.elm_base.specs.declared.event.PortType.{PortType, out-PortType}
use Rattle.elm_base.specs.declared.event.PortType.TheOpen as type
use Rattle.elm_base.specs.declared.event.PortType.TheFolds.{fold-PortType}

-- whether a type is the one that is held against it
abbrev pub Test : Type 0
Test = PortType → Bool

abbrev pub all_same : List Test → List PortType → Bool
all_same [] [] = true
all_same (test ∷ tests) (part ∷ parts) = test part && all_same tests parts
all_same _ _ = false

abbrev pub fields_same : List (List ℕ × Test) → List (List ℕ × PortType) → Bool
fields_same [] [] = true
fields_same (test ∷ tests) (field ∷ fields) = bytes_eq test.0 field.0 && test.1 field.1 && fields_same tests fields
fields_same _ _ = false

abbrev pub same_layer : type.PortType-F Test → type.PortType-F PortType → Bool
same_layer type.Unit type.Unit = true
same_layer type.Int type.Int = true
same_layer type.Bool type.Bool = true
same_layer type.Text type.Text = true
same_layer (type.Maybe test) (type.Maybe part) = test part
same_layer (type.List test) (type.List part) = test part
same_layer (type.Tuple tests) (type.Tuple parts) = all_same tests parts
same_layer (type.Fields tests) (type.Fields fields) = fields_same tests fields
same_layer _ _ = false

abbrev pub same_step : type.PortType-F Test → Test
same_step layer other = same_layer layer (out-PortType other)

abbrev pub same_type : PortType → Test
same_type = fold-PortType Test same_step

abbrev pub tested : List ℕ × PortType → List ℕ × Test
tested field = (field.0, same_type field.1)
