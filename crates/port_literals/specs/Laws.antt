-- Laws of literals.
use Rattle.std.specs.Prelude.{◌≡◌, ◌≢◌, ◌<◌, IsTrue, Result, Ok, Err}
use Rattle.elm_base.specs.declared.memory.Halt.{Halt}
use Rattle.elm_base.specs.declared.memory.Halt.TheVariants as halt
use Rattle.elm_base.specs.declared.event.PortType.{PortType}
use Rattle.elm_base.specs.declared.event.PortValue.{PortValue}
use Rattle.port_values.specs.Values.{is_of}
use Rattle.port_values.specs.ValueText.{value_text}
use Rattle.port_values.specs.Literals.{Text, IsLiteral}
use Rattle.port_literals.specs.declared.value.BadValue.{BadValue}
use Rattle.port_literals.specs.Ports.{is_port, nesting}

-- a literal has at most one value of its type
abbrev pub OneValue : Type 0
OneValue = (port : PortType) → IsTrue (is_port port) → (text : Text) (given other : PortValue) → IsLiteral port given text → IsLiteral port other text → given ≡ other

-- A value of a type that nests at most 63 deep, as it is printed, is a literal of the type with that value.
abbrev pub PrintedIsLiteral : Type 0
PrintedIsLiteral = (port : PortType) → nesting port < 64 → (given : PortValue) → IsTrue (is_of port given) → IsLiteral port given (value_text given)

-- the text is a literal of the type with the value
abbrev pub Reads : PortType → Text → Result PortValue (Halt BadValue) → Type 0
Reads port text (Ok given) = IsLiteral port given text
Reads port text (Err cause) = Unit {0}

-- the text is no literal of the type, unless memory failed
abbrev pub Refuses : PortType → Text → Result PortValue (Halt BadValue) → Type 0
Refuses port text (Ok given) = Unit {0}
Refuses port text (Err cause) = cause ≢ halt.NoMemory → (given : PortValue) → IsLiteral port given text → ⊥
