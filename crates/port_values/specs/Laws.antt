-- Laws of the values of ports.
use Rattle.std.specs.Prelude.{◌≡◌, ℕ, ℤ, Bool, IsTrue, List, Some}
use Rattle.std.specs.Fmt.{signed_decimal}
use Rattle.std.specs.Str.{is_utf8}
use Rattle.elm_base.specs.Quoted.{quoted}
use Rattle.elm_base.specs.declared.event.PortType.{PortType}
use Rattle.port_values.specs.Values.{is_int, is_of}
use Rattle.port_values.specs.Defaults.{default}
use Rattle.port_values.specs.Leaves.{int_of, text_of, truth_of}
use Rattle.port_values.specs.ValueText.{truth_text}

-- what is least of a type is a value of it
abbrev pub DefaultIsOfItsType : Type 0
DefaultIsOfItsType = (port : PortType) → IsTrue (is_of port (default port))

-- an integer that is printed is a literal of itself
abbrev pub PrintedIntIsItsLiteral : Type 0
PrintedIntIsItsLiteral = (number : ℤ) → IsTrue (is_int number) → int_of (signed_decimal number) ≡ Some number

-- a text that is printed is a literal of itself
abbrev pub PrintedTextIsItsLiteral : Type 0
PrintedTextIsItsLiteral = (bytes : List ℕ) → IsTrue (is_utf8 bytes) → text_of (quoted 34 bytes) ≡ Some bytes

-- a truth that is printed is a literal of itself
abbrev pub PrintedTruthIsItsLiteral : Type 0
PrintedTruthIsItsLiteral = (truth : Bool) → truth_of (truth_text truth) ≡ Some truth
