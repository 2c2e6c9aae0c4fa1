-- What a value of a port's type is.
use Rattle.std.specs.Prelude.{ℕ, ℤ, pos, negsuc, Bool, true, false, ◌&&◌, nat_lt, List, [], ◌∷◌}
use Rattle.std.specs.List.{list_all}
use Rattle.std.specs.Str.{bytes_eq, is_utf8}
use Rattle.elm_base.specs.declared.event.PortType.{PortType}
use Rattle.elm_base.specs.declared.event.PortType.TheOpen as type
use Rattle.elm_base.specs.declared.event.PortType.TheFolds.{fold-PortType}
use Rattle.elm_base.specs.declared.event.PortValue.{PortValue, out-PortValue}
use Rattle.elm_base.specs.declared.event.PortValue.TheOpen as value

-- an integer of 64 bits
abbrev pub is_int : ℤ → Bool
is_int (pos n) = nat_lt n 9223372036854775808
is_int (negsuc n) = nat_lt n 9223372036854775808

-- as many parts as there are tests, each of which its test takes
abbrev pub all_pass : List (PortValue → Bool) → List PortValue → Bool
all_pass [] [] = true
all_pass (test ∷ tests) (part ∷ parts) = test part && all_pass tests parts
all_pass _ _ = false

-- the fields of a record: the labels of the type in its order, each with a value that its test takes
abbrev pub fields_pass : List (List ℕ × (PortValue → Bool)) → List (List ℕ × PortValue) → Bool
fields_pass [] [] = true
fields_pass (test ∷ tests) (field ∷ fields) = bytes_eq test.0 field.0 && test.1 field.1 && fields_pass tests fields
fields_pass _ _ = false

-- by the form of a type, where the types in it are given by the tests for their values
abbrev pub passes : type.PortType-F (PortValue → Bool) → value.PortValue-F PortValue → Bool
passes type.Unit value.Unit = true
passes type.Int (value.Int number) = is_int number
passes type.Bool (value.Bool truth) = true
passes type.Text (value.Text bytes) = is_utf8 bytes
passes (type.Maybe test) value.Nothing = true
passes (type.Maybe test) (value.Just inner) = test inner
passes (type.List test) (value.List parts) = list_all test parts
passes (type.Tuple tests) (value.Tuple parts) = all_pass tests parts
passes (type.Fields tests) (value.Fields fields) = fields_pass tests fields
passes _ _ = false

abbrev pub test_step : type.PortType-F (PortValue → Bool) → PortValue → Bool
test_step layer given = passes layer (out-PortValue given)

-- A value of the type: an integer has 64 bits, a text is UTF-8, and a record has the labels of its type in their order.
abbrev pub is_of : PortType → PortValue → Bool
is_of = fold-PortType (PortValue → Bool) test_step
