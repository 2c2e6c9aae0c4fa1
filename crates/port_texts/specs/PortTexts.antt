-- Which texts are texts of types of programs' ports.
use Rattle.std.specs.Prelude.{◌≡◌, ◌≢◌, ◌≤◌, ℕ, suc, IsTrue, List, length, Result, Ok, Err}
use Rattle.elm_base.specs.declared.memory.Halt.{Halt}
use Rattle.elm_base.specs.declared.memory.Halt.TheVariants as halt
use Rattle.elm_base.specs.declared.event.PortType.{PortType}
use Rattle.frame_text.specs.TypeText.{type_text}
use Rattle.port_literals.specs.Ports.{is_port, nesting}
use Rattle.port_texts.specs.declared.read.BadPortText.{BadPortText}
use Rattle.port_texts.specs.Given.{is_given, max_levels, max_text}

-- The type is printed as this text, and a port of a program may have it.
pub record Spells (port : PortType) (text : List ℕ) : Type 0 where
  pub printed : type_text port ≡ text
  pub given : IsTrue (is_given port max_levels)
  pub short : length text ≤ max_text

-- the text is none of such a type, unless memory failed
abbrev pub Refuses : List ℕ → Result PortType (Halt BadPortText) → Type 0
Refuses text (Ok port) = Unit {0}
Refuses text (Err cause) = cause ≢ halt.NoMemory → (port : PortType) → Spells port text → ⊥

-- two types of programs' ports with one text are one type
abbrev pub OneType : Type 0
OneType = (text : List ℕ) (port other : PortType) → Spells port text → Spells other text → port ≡ other

-- the literals of such a type are told apart, and a value of it is printed as a literal
abbrev pub GivenIsPort : Type 0
GivenIsPort = (port : PortType) (levels : ℕ) → IsTrue (is_given port levels) → IsTrue (is_port port)

abbrev pub GivenNests : Type 0
GivenNests = (port : PortType) (levels : ℕ) → IsTrue (is_given port levels) → suc (nesting port) ≤ levels
