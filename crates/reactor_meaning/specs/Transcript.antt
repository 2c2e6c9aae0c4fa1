-- What is written for a whole script.
use Rattle.std.specs.Prelude.{ℕ, List, [], ◌∷◌, ◌++◌, drop, Option, None}
use Rattle.script_lines.specs.declared.line.Line.{Line}
use Rattle.script_lines.specs.Reading.{readings, whole_readings}
use Rattle.frame_text.specs.Refusals.{refusal_line}
use Rattle.reactor_outside.specs.Shelf.{Files}
use Rattle.reactor_meaning.specs.declared.answer.Answer.{Answer}
use Rattle.reactor_meaning.specs.declared.answer.Answer.TheVariants.{Shown, Refused}
use Rattle.reactor_meaning.specs.Program.{Program}
use Rattle.reactor_meaning.specs.Frame.{frame}
use Rattle.reactor_meaning.specs.Command.{State, Failure, begun, next_line}

-- the frame of a state
abbrev pub frame_of : State → List ℕ
frame_of state = frame state.program state.events state.cursor

-- what is written for an answer
abbrev pub answer_text : State → Answer → List ℕ
answer_text state Shown = frame_of state
answer_text state (Refused refusal) = refusal_line refusal

-- the failure of the first of these lines: where the list ends, no call fails
abbrev pub first_failure : List (Option Failure) → Option Failure
first_failure [] = None
first_failure (failure ∷ more) = failure

-- The answers to lines in order, each by the state that the lines before it left.
abbrev pub answers : State → List Line → List (Option Failure) → List ℕ
answers state [] failures = []
answers state (line ∷ more) failures =
    let step = next_line state line (first_failure failures) in
    answer_text step.state step.answer ++ answers step.state more (drop 1 failures)

-- the state that lines leave, where no call on the shelf fails
abbrev pub state_after : State → List Line → State
state_after state [] = state
state_after state (line ∷ more) = state_after (next_line state line None).state more

-- The transcript of a session: the first frame, and then each line's answer in order. The pieces in which a script
-- comes are no part of it.
abbrev pub transcript : Program → Files → List ℕ → List (Option Failure) → List ℕ
transcript program files script failures =
    frame_of (begun program files) ++ answers (begun program files) (readings script) failures

-- What is written for a script so far, where no call on the shelf fails: the answers to the lines that a newline ended.
abbrev pub written_so_far : Program → Files → List ℕ → List ℕ
written_so_far program files script =
    frame_of (begun program files) ++ answers (begun program files) (whole_readings script) []
