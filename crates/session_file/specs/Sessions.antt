-- Which bytes are a session.
use Rattle.std.specs.Prelude.{◌≡◌, ◌≤◌, ◌+◌, ◌==◌, ◌&&◌, ℕ, suc, max, nat_le, Bool, true, false, IsTrue, IsUtf8, if◌then◌else◌, List, [], ◌∷◌, length, slice_get, All, Option, Some, None}
use Rattle.serde_json.specs.Data.{Data}
use Rattle.serde_json.specs.Read.{read}
use Rattle.elm_base.specs.declared.event.PortType.{PortType}
use Rattle.elm_base.specs.declared.event.PortValue.{PortValue}
use Rattle.elm_base.specs.declared.event.Event.{Event}
use Rattle.elm_base.specs.declared.event.Event.TheVariants as event
use Rattle.script_lines.specs.Names.{is_input_name}
use Rattle.port_values.specs.ValueText.{value_text}
use Rattle.port_values.specs.Literals.{IsLiteral}
use Rattle.port_literals.specs.Ports.{is_new, is_port}
use Rattle.port_texts.specs.PortTexts as text
use Rattle.session_form.specs.Form as form
use Rattle.session_form.specs.Reader.{place_in}

-- ---- inputs

-- names with types
abbrev pub Inputs : Type 0
Inputs = List (List ℕ × PortType)

-- `[NAME, TYPE]`: a name as a script line has it, and the text of a type that a port of a program may have
pub record InputIs (d : Data) (input : List ℕ × PortType) : Type 0 where
  pub written : List ℕ
  pub whole : d ≡ form.named input.0 written
  pub name : IsTrue (is_input_name input.0)
  pub port : text.Spells input.1 written

-- no name stands twice
abbrev pub are_different : Inputs → Bool
are_different [] = true
are_different (input ∷ inputs) = is_new input.0 inputs && are_different inputs

-- ---- events

-- the greatest number of a delivery
abbrev pub max_number : ℕ
max_number = 999999999

-- `[I, TEXT]`: the place of an input, from 0, and a literal of its type
pub record InputEvent (inputs : Inputs) (d : Data) (name : List ℕ) (port : PortType) (value : PortValue) : Type 0 where
  pub place : ℕ
  pub written : List ℕ
  pub whole : d ≡ form.input place written
  pub there : slice_get inputs place ≡ Some (name, port)
  pub literal : IsLiteral port value written

-- An event of a session: an input event, or `[K]`, a delivery.
abbrev pub EventIs : Inputs → Data → Event → Type 0
EventIs inputs d (event.Input name port value) = InputEvent inputs d name port value
EventIs inputs d (event.Deliver number) = (d ≡ form.delivery number) × (number ≤ max_number)

-- where so many inputs were used before: this place, if any, is one that was used, or the next
abbrev pub is_usable : ℕ → Option ℕ → Bool
is_usable used None = true
is_usable used (Some place) = nat_le place used

-- how many are used behind it
abbrev pub used_after : ℕ → Option ℕ → ℕ
used_after used None = used
used_after used (Some place) = max used (suc place)

-- The inputs are used in their order, and in the end all of so many are used.
abbrev pub in_order : ℕ → ℕ → List Data → Bool
in_order count used [] = used == count
in_order count used (d ∷ ds) = if is_usable used (place_in d) then in_order count (used_after used (place_in d)) ds else false

-- how many bytes an event's value has, as it is printed
abbrev pub printed_of : Event → ℕ
printed_of (event.Input name port value) = length (value_text value)
printed_of (event.Deliver number) = 0

-- and those of all events together
abbrev pub printed_size : List Event → ℕ
printed_size [] = 0
printed_size (event ∷ events) = printed_of event + printed_size events

-- ---- sessions

-- one by one
abbrev pub Each : {A B : Type 0} → (A → B → Type 0) → List A → List B → Type 0
Each Is [] [] = Unit {0}
Each Is (a ∷ more) (b ∷ others) = Is a b × Each Is more others
Each Is _ _ = ⊥

abbrev pub max_inputs : ℕ
max_inputs = 261

abbrev pub max_events : ℕ
max_events = 1000000

abbrev pub max_printed : ℕ
max_printed = 16777216

abbrev pub max_bytes : ℕ
max_bytes = 134217728

-- the inputs that these data are, of which these events make use in order
pub record InputsAre (ds events : List Data) (inputs : Inputs) : Type 0 where
  pub each : Each InputIs ds inputs
  pub different : IsTrue (are_different inputs)
  pub used : IsTrue (in_order (length inputs) 0 events)

-- the events that these data are
pub record EventsAre (inputs : Inputs) (ds : List Data) (events : List Event) : Type 0 where
  pub each : Each (EventIs inputs) ds events
  pub printed : printed_size events ≤ max_printed

-- The data are those of the session with this cursor and these events.
pub record Spells (d : Data) (cursor : ℕ) (events : List Event) : Type 0 where
  pub event_data : List Data
  pub input_data : List Data
  pub inputs : Inputs
  pub whole : d ≡ form.sheet cursor event_data input_data
  pub few : length input_data ≤ max_inputs
  pub many : length event_data ≤ max_events
  pub within : cursor ≤ length event_data
  pub inputs_are : InputsAre input_data event_data inputs
  pub events_are : EventsAre inputs event_data events

-- The bytes are within the limit, they are JSON, and what they say is the session.
pub record SessionOf (bytes : List ℕ) (cursor : ℕ) (events : List Event) : Type 0 where
  pub short : length bytes ≤ max_bytes
  pub utf8 : IsUtf8 bytes
  pub found : Data
  pub json : read bytes ≡ Some found
  pub spells : Spells found cursor events

-- ---- for private contracts

-- literals of these inputs' types are told apart
abbrev pub ArePorts : Inputs → Type 0
ArePorts inputs = All (λ input. IsTrue (is_port input.1)) inputs

-- a delivery of this number
abbrev pub IsDelivery : ℕ → Event → Type 0
IsDelivery number (event.Deliver own) = (number ≡ own) × (own ≤ max_number)
IsDelivery number (event.Input name port value) = ⊥

-- an input event of the input at this place, whose value is written so
abbrev pub IsInputAt : Inputs → ℕ → List ℕ → Event → Type 0
IsInputAt inputs place written (event.Deliver number) = ⊥
IsInputAt inputs place written (event.Input name port value) = (slice_get inputs place ≡ Some (name, port)) × IsLiteral port value written

-- ---- laws

-- bytes spell at most one session
abbrev pub OneSession : Type 0
OneSession =
    (bytes : List ℕ) (cursor other : ℕ) (events others : List Event) → SessionOf bytes cursor events → SessionOf bytes other others
    → (cursor ≡ other) × (events ≡ others)
