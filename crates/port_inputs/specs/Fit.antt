-- Whether events fit a program.
use Rattle.std.specs.Prelude.{◌≡◌, ◌≢◌, ℕ, suc, List, [], ◌∷◌, ◌++◌, length, All, Option, Some, None, if◌then◌else◌, Result, Ok, Err}
use Rattle.std.specs.Str.{bytes_eq}
use Rattle.elm_base.specs.declared.event.PortType.{PortType}
use Rattle.elm_base.specs.declared.event.Event.{Event}
use Rattle.elm_base.specs.declared.event.Event.TheVariants as event
use Rattle.port_inputs.specs.declared.fit.Misfit.{Misfit}
use Rattle.port_inputs.specs.declared.fit.Misfit.TheVariants as misfit
use Rattle.port_inputs.specs.declared.fit.Standing.{Standing}
use Rattle.port_inputs.specs.declared.fit.Standing.TheVariants as standing

-- names with types
abbrev pub Inputs : Type 0
Inputs = List (List ℕ × PortType)

-- the type of the input with this name
abbrev pub type_of : Inputs → List ℕ → Option PortType
type_of [] name = None
type_of (input ∷ inputs) name = if bytes_eq name input.0 then Some input.1 else type_of inputs name

-- A delivery fits every program, and an input fits exactly where the program's inputs have its name at its type.
abbrev pub Fits : Inputs → Event → Type 0
Fits inputs (event.Input name port value) = type_of inputs name ≡ Some port
Fits inputs (event.Deliver number) = Unit {0}

-- no input has the name
abbrev pub IsMissing : Inputs → Event → Type 0
IsMissing inputs (event.Input name port value) = type_of inputs name ≡ None
IsMissing inputs (event.Deliver number) = ⊥

-- the input has another type
abbrev pub Differs : Inputs → Event → Type 0
Differs inputs (event.Input name port value) = (other : PortType) × (type_of inputs name ≡ Some other) × (other ≢ port)
Differs inputs (event.Deliver number) = ⊥

-- the first event that doesn't fit: those before it do. Events count from 1.
pub record FirstOf (Is : Event → Type 0) (inputs : Inputs) (events : List Event) (number : ℕ) : Type 0 where
  pub before : List Event
  pub event : Event
  pub behind : List Event
  pub whole : events ≡ before ++ event ∷ behind
  pub counted : number ≡ suc (length before)
  pub fit : All (Fits inputs) before
  pub is : Is event

-- Events fit where each does; else the first that doesn't is named.
abbrev pub Judges : Inputs → List Event → Result (Unit {0}) Misfit → Type 0
Judges inputs events (Ok done) = All (Fits inputs) events
Judges inputs events (Err (misfit.Missing number)) = FirstOf (IsMissing inputs) inputs events number
Judges inputs events (Err (misfit.Differs number)) = FirstOf (Differs inputs) inputs events number

-- ---- for private contracts: how one event stands

abbrev pub Stands : Inputs → List ℕ → PortType → Standing → Type 0
Stands inputs name port standing.Fits = type_of inputs name ≡ Some port
Stands inputs name port standing.Missing = type_of inputs name ≡ None
Stands inputs name port standing.Differs = (other : PortType) × (type_of inputs name ≡ Some other) × (other ≢ port)

abbrev pub StandsOf : Inputs → Event → Standing → Type 0
StandsOf inputs event standing.Fits = Fits inputs event
StandsOf inputs event standing.Missing = IsMissing inputs event
StandsOf inputs event standing.Differs = Differs inputs event
