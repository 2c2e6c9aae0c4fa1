-- One command: the next state and the answer.
use Rattle.std.specs.Prelude.{ℕ, ◌+◌, ℤ, Bool, not, ◌==◌, ◌&&◌, nat_le, nat_lt, if◌then◌else◌, List, [], ◌∷◌, ◌++◌, length, Option, Some, None}
use Rattle.std.specs.List.{list_all}
use Rattle.elm_base.specs.declared.event.Event.{Event}
use Rattle.elm_base.specs.declared.event.Event.TheVariants as event
use Rattle.elm_base.specs.declared.event.PortType.TheVariants as type
use Rattle.elm_base.specs.declared.event.PortValue.TheVariants as value
use Rattle.elm_base.specs.declared.command.Command.{Command}
use Rattle.elm_base.specs.declared.command.Command.TheVariants.{Input}
use Rattle.elm_base.specs.declared.command.CommandRefusal.{CommandRefusal}
use Rattle.elm_base.specs.declared.command.CommandRefusal.TheVariants.{UnknownInput, BadValue, TooManyEvents, Unsupported}
use Rattle.script_lines.specs.declared.line.Line.{Line}
use Rattle.script_lines.specs.declared.line.Line.TheVariants as line
use Rattle.reactor_outside.specs.Shelf.{Files}
use Rattle.reactor_meaning.specs.declared.answer.Answer.{Answer}
use Rattle.reactor_meaning.specs.declared.answer.Answer.TheVariants.{Shown, Refused}
use Rattle.reactor_meaning.specs.Literal.{integer_of}
use Rattle.reactor_meaning.specs.Program.{Program, has_input}

-- what a session is: the program, the recorded events, the cursor among them, and the files
pub record State : Type 0 where
  pub program : Program
  pub events : List Event
  pub cursor : ℕ
  pub files : Files

-- a call on the shelf that failed in a command: the file, and what stands at its name afterwards
pub record Failure : Type 0 where
  pub file : List ℕ
  pub holds : Option (List ℕ)

pub record Step : Type 0 where
  pub state : State
  pub answer : Answer

-- the state in which a session of a program begins
abbrev pub begun : Program → Files → State
begun program files = record { program = program; events = []; cursor = 0; files = files }

-- a refused command changes nothing
abbrev pub refused : State → CommandRefusal → Step
refused state refusal = record { state = state; answer = Refused refusal }

-- the event is added, and the cursor moves to the end
abbrev pub recorded : State → Event → Step
recorded state e = record {
  state = record {
    program = state.program;
    events = state.events ++ e ∷ [];
    cursor = length state.events + 1;
    files = state.files;
  };
  answer = Shown;
}

-- how many events are recorded at most
abbrev pub most_events : ℕ
most_events = 1000000

-- an input of integers takes the value that the text spells, if it spells one and an event more may be recorded
abbrev pub input_value : State → List ℕ → Option ℤ → Step
input_value state name None = refused state (BadValue name type.Int)
input_value state name (Some number) =
    if nat_lt (length state.events) most_events then recorded state (event.Input name type.Int (value.Int number))
    else refused state (TooManyEvents most_events)

-- The inputs that are served: the name has no point, and the text only spaces and visible chars of ASCII without an
-- opening bracket.
abbrev pub is_served : List ℕ → List ℕ → Bool
is_served name text =
    list_all (λ byte. not (byte == 46)) name
    && list_all (λ byte. nat_le 32 byte && nat_le byte 126 && not (byte == 40)) text

-- the first test that fails gives the refusal
abbrev pub input : State → List ℕ → List ℕ → Step
input state name text =
    if has_input state.program name then input_value state name (integer_of text) else refused state (UnknownInput name)

-- The step of a command, where the call on the shelf that failed is told, if one did.
abbrev pub next : State → Command → Option Failure → Step
next state (Input name text) failed = if is_served name text then input state name text else refused state Unsupported
next state other failed = refused state Unsupported

-- The step of a line: what is no command that is served is refused.
abbrev pub next_line : State → Line → Option Failure → Step
next_line state (line.Command command) failed = next state command failed
next_line state other failed = refused state Unsupported
