use Rattle.std.specs.Prelude.{◌≡◌, ℕ, true, false, List, ◌++◌, length, Option, [], take}
use Rattle.elm_base.specs.declared.command.Command.TheVariants.{Input}
use Rattle.elm_base.specs.declared.command.CommandRefusal.{CommandRefusal}
use Rattle.elm_base.specs.declared.command.CommandRefusal.TheVariants.{UnknownInput}
use Rattle.elm_base.specs.declared.event.Event.{Event}
use Rattle.script_lines.specs.declared.line.Line.{Line}
use Rattle.reactor_meaning.specs.declared.answer.Answer.TheVariants.{Refused}
use Rattle.reactor_meaning.specs.Program.{Program, has_input}
use Rattle.reactor_meaning.specs.Frame.{frame}
use Rattle.reactor_meaning.specs.Command.{State, Failure, is_served, next, next_line}
use Rattle.reactor_meaning.specs.Transcript.{answers, state_after}

-- a refused line leaves the state
abbrev pub RefusalsChangeNothing : Type 0
RefusalsChangeNothing = (state : State) (line : Line) (failed : Option Failure) (refusal : CommandRefusal)
    → (next_line state line failed).answer ≡ Refused refusal → (next_line state line failed).state ≡ state

-- an input that the program doesn't have is refused as such, whatever its value
abbrev pub UnknownInputsComeFirst : Type 0
UnknownInputsComeFirst = (state : State) (name text : List ℕ) (failed : Option Failure)
    → is_served name text ≡ true → has_input state.program name ≡ false
    → (next state (Input name text) failed).answer ≡ Refused (UnknownInput name)

-- the frame at a cursor depends on the events before the cursor, and of the others on their number alone
abbrev pub FramesShowTheCursor : Type 0
FramesShowTheCursor = (program : Program) (events others : List Event) (cursor : ℕ)
    → take cursor events ≡ take cursor others → length events ≡ length others
    → frame program events cursor ≡ frame program others cursor

-- the answers to lines and then to others are the answers to all
abbrev pub AnswersInTurn : Type 0
AnswersInTurn = (state : State) (lines others : List Line)
    → answers state (lines ++ others) [] ≡ answers state lines [] ++ answers (state_after state lines) others []
