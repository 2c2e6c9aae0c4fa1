-- The session that the program keeps, as the state of a session.
use Rattle.std.specs.Prelude.{◌≡◌, ◌++◌, ℕ, ℤ, List, length, None}
use Rattle.elm_base.specs.declared.event.Event.{Event}
use Rattle.elm_base.specs.declared.event.Event.TheVariants as event
use Rattle.elm_base.specs.declared.event.PortType.TheVariants as type
use Rattle.elm_base.specs.declared.event.PortValue.TheVariants as value
use Rattle.script_lines.specs.declared.line.Line.{Line}
use Rattle.reactor_outside.specs.Shelf.{Files}
use Rattle.reactor_meaning.specs.declared.answer.Answer.{Answer}
use Rattle.reactor_meaning.specs.Command.{State, Step, next_line}
use Rattle.reactor_meaning.specs.Transcript.{answer_text}
use Rattle.reactor_engine.specs.declared.session.Session.{Session}

-- the event that the input of this name takes an integer
abbrev pub integer_event : List ℕ → ℤ → Event
integer_event name number = event.Input name type.Int (value.Int number)

-- the state that a session stands for, with these files: its cursor is at the end
abbrev pub state_of : Session → Files → State
state_of session files = record {
  program = record { port = session.port };
  events = session.events.items;
  cursor = length session.events.items;
  files = files;
}

-- the session stands for the same state
abbrev pub IsKept : Session → Session → Type 0
IsKept old new = (files : Files) → state_of new files ≡ state_of old files

-- from one session to the next by this step, with its answer
abbrev pub Makes : (State → Step) → Session → Session → Answer → Type 0
Makes step old new answer = (files : Files) →
    let made = step (state_of old files) in
    (state_of new files ≡ made.state) × (answer ≡ made.answer)

-- from one session to the next by what a line says, with the answer
abbrev pub Obeys : Session → Line → Session → Answer → Type 0
Obeys old line new answer = Makes (λ state. next_line state line None) old new answer

-- from one session to the next by what a line says, with the answer written behind what was written before
abbrev pub Answers : Session → Line → Session → List ℕ → List ℕ → Type 0
Answers old line new before after = (files : Files) →
    let made = next_line (state_of old files) line None in
    (state_of new files ≡ made.state) × (after ≡ before ++ answer_text made.state made.answer)
