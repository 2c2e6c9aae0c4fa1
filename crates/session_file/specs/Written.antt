-- The text of a session, as it is written.
use Rattle.std.specs.Prelude.{◌≡◌, ◌≤◌, ◌++◌, ℕ, suc, All, Bool, IsTrue, if◌then◌else◌, List, [], ◌∷◌, map, length, Result, Ok, Err}
use Rattle.std.specs.List.{list_any}
use Rattle.std.specs.Str.{bytes_eq}
use Rattle.serde_json.specs.Data.{Data}
use Rattle.serde_json.specs.Written.{compact_text}
use Rattle.elm_base.specs.declared.memory.Halt.{Halt}
use Rattle.elm_base.specs.declared.memory.Halt.TheVariants as halt
use Rattle.elm_base.specs.declared.event.PortType.{PortType}
use Rattle.elm_base.specs.declared.event.PortValue.{PortValue}
use Rattle.elm_base.specs.declared.event.Event.{Event}
use Rattle.elm_base.specs.declared.event.Event.TheVariants as event
use Rattle.frame_text.specs.TypeText.{type_text}
use Rattle.script_lines.specs.Names.{is_input_name}
use Rattle.port_values.specs.Values.{is_of}
use Rattle.port_values.specs.ValueText.{value_text}
use Rattle.port_values.specs.Literals.{IsLiteral}
use Rattle.port_literals.specs.Ports.{is_new}
use Rattle.port_texts.specs.PortTexts as text
use Rattle.session_form.specs.Form as form
use Rattle.session_file.specs.declared.session.BadSession.{BadSession}
use Rattle.session_file.specs.Answers.{Answers}
use Rattle.session_file.specs.Sessions.{Inputs, max_number, max_inputs, max_events, max_printed, printed_size, SessionOf}

-- ---- inputs, in the order of their first use

-- one more behind them, where its name is new
abbrev pub with_input : List ℕ → PortType → Inputs → Inputs
with_input name port inputs = if is_new name inputs then inputs ++ (name, port) ∷ [] else inputs

abbrev pub with_event : Event → Inputs → Inputs
with_event (event.Deliver number) used = used
with_event (event.Input name port value) used = with_input name port used

-- where these were used before
abbrev pub used_by : Inputs → List Event → Inputs
used_by used [] = used
used_by used (event ∷ events) = used_by (with_event event used) events

-- The inputs of events, in the order of their first use.
abbrev pub inputs_of : List Event → Inputs
inputs_of events = used_by [] events

-- the place of the first input with this name; where none has it, how many there are
abbrev pub place_of : List ℕ → Inputs → ℕ
place_of name [] = 0
place_of name (input ∷ inputs) = if bytes_eq name input.0 then 0 else suc (place_of name inputs)

-- ---- the text

-- `[K]`, or `[I, TEXT]` with the value as it is printed
abbrev pub event_data : Inputs → Event → Data
event_data inputs (event.Deliver number) = form.delivery number
event_data inputs (event.Input name port value) = form.input (place_of name inputs) (value_text value)

-- `[NAME, TYPE]`
abbrev pub input_data : List ℕ × PortType → Data
input_data input = form.named input.0 (type_text input.1)

abbrev pub session_data : ℕ → List Event → Data
session_data cursor events = form.sheet cursor (map (event_data (inputs_of events)) events) (map input_data (inputs_of events))

-- The compact text: keys in the order of their bytes, no spaces, values as they are printed, no newline at the end.
unfoldable pub session_text : ℕ → List Event → List ℕ
session_text cursor events = compact_text (session_data cursor events)

-- ---- what may be written

-- an input of a program: a name as a script line has it, and a type that a port of a program may have
abbrev pub IsNamed : List ℕ × PortType → Type 0
IsNamed input = IsTrue (is_input_name input.0) × text.Spells input.1 (type_text input.1)

-- a delivery, or an input event of a program, with a value of its type
abbrev pub IsRecorded : Event → Type 0
IsRecorded (event.Deliver number) = number ≤ max_number
IsRecorded (event.Input name port value) = IsNamed (name, port) × IsTrue (is_of port value)

-- an input event has the type that its name has
abbrev pub HasType : (List ℕ → PortType) → Event → Type 0
HasType types (event.Deliver number) = Unit {0}
HasType types (event.Input name port value) = types name ≡ port

-- The events fit one program, in which names have types, and the cursor is at most their number.
pub record Fits (cursor : ℕ) (events : List Event) : Type 0 where
  pub recorded : All IsRecorded events
  pub types : List ℕ → PortType
  pub agree : All (HasType types) events
  pub within : cursor ≤ length events

-- The limits of a session, but for that on its bytes: what is written within these is never too long.
pub record IsWithin (events : List Event) : Type 0 where
  pub few : length (inputs_of events) ≤ max_inputs
  pub many : length events ≤ max_events
  pub printed : printed_size events ≤ max_printed

-- what is written of a session within the limits spells it
abbrev pub SpellsIt : ℕ → List Event → Type 0
SpellsIt cursor events = IsWithin events → SessionOf (session_text cursor events) cursor events

-- ---- what is written is read again

-- the answer is this session, or that memory failed
abbrev pub IsIt : ℕ → List Event → Result (ℕ × List Event) (Halt BadSession) → Type 0
IsIt cursor events (Ok said) = (said.0 ≡ cursor) × (said.1 ≡ events)
IsIt cursor events (Err cause) = cause ≡ halt.NoMemory

-- An answer by the rule of `read`, to bytes that spell a session, is this session, or that memory failed.
abbrev pub IsReadAgain : Type 0
IsReadAgain =
    (bytes : List ℕ) (cursor : ℕ) (events : List Event) → SessionOf bytes cursor events
    → (answer : Result (ℕ × List Event) (Halt BadSession)) → Answers (λ said. SessionOf bytes said.0 said.1) answer → IsIt cursor events answer

-- A session that bytes spell may be written.
abbrev pub MayBeWrittenAgain : Type 0
MayBeWrittenAgain = (bytes : List ℕ) (cursor : ℕ) (events : List Event) → SessionOf bytes cursor events → Fits cursor events

-- the value of a literal is of the literal's type
abbrev pub LiteralIsOfItsType : Type 0
LiteralIsOfItsType = (port : PortType) (given : PortValue) (text : List ℕ) → IsLiteral port given text → IsTrue (is_of port given)

-- ---- how many inputs there are

abbrev pub is_among : List (List ℕ) → List ℕ → Bool
is_among names name = list_any (λ other. bytes_eq name other) names

-- an input event has one of these names
abbrev pub IsAmong : List (List ℕ) → Event → Type 0
IsAmong names (event.Deliver number) = Unit {0}
IsAmong names (event.Input name port value) = IsTrue (is_among names name)

-- Events use at most as many inputs as their program has names.
abbrev pub FewInputs : Type 0
FewInputs = (names : List (List ℕ)) (events : List Event) → All (IsAmong names) events → length (inputs_of events) ≤ length names
