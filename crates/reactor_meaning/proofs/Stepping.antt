-- The laws on the step of a command, and on frames.
use Rattle.std.proofs.Common.{◌≡◌, ◌∙◌, ◌++◌, ℕ, ℤ, Bool, true, false, if◌then◌else◌, List, [], ◌∷◌, length, Option, Some, None, take, ap, sym, refl, ltb, append_assoc}
use Rattle.elm_base.specs.declared.command.Command.{Command}
use Rattle.elm_base.specs.declared.command.Command.TheVariants.{Input}
use Rattle.elm_base.specs.declared.command.CommandRefusal.{CommandRefusal}
use Rattle.elm_base.specs.declared.command.CommandRefusal.TheVariants.{UnknownInput, TooManyEvents, Unsupported}
use Rattle.elm_base.specs.declared.event.Event.{Event}
use Rattle.elm_base.specs.declared.event.Event.TheVariants as event
use Rattle.elm_base.specs.declared.event.PortType.TheVariants as type
use Rattle.elm_base.specs.declared.event.PortValue.TheVariants as value
use Rattle.script_lines.specs.declared.line.Line.{Line}
use Rattle.script_lines.specs.declared.line.Line.TheVariants as line
use Rattle.frame_text.specs.Frame.{frame_text}
use Rattle.reactor_meaning.specs.declared.answer.Answer.TheVariants.{Refused}
use Rattle.reactor_meaning.specs.Literal.{integer_of}
use Rattle.reactor_meaning.specs.Program.{Program, has_input, screen}
use Rattle.reactor_meaning.specs.Command.{State, Failure, Step, input, input_value, recorded, refused, most_events, is_served, next, next_line}
use Rattle.reactor_meaning.specs.Transcript.{answers, answer_text, state_after}
use Rattle.reactor_meaning.specs.Laws.{RefusalsChangeNothing, UnknownInputsComeFirst, FramesShowTheCursor, AnswersInTurn}

-- a step that leaves the state where it refuses
abbrev KeepsRefused : State → Step → Type 0
KeepsRefused state step = (refusal : CommandRefusal) → step.answer ≡ Refused refusal → step.state ≡ state

either : (state : State) (test : Bool) (one other : Step) → KeepsRefused state one → KeepsRefused state other → KeepsRefused state (if test then one else other)
either state true one other a b = a
either state false one other a b = b

refusing : (state : State) (why : CommandRefusal) → KeepsRefused state (refused state why)
refusing state why refusal is = refl

recording : (state : State) (e : Event) → KeepsRefused state (recorded state e)
recording state e refusal is = cc

by_value : (state : State) (name : List ℕ) (number : Option ℤ) → KeepsRefused state (input_value state name number)
by_value state name None = λ refusal is. refl
by_value state name (Some number) =
    let e = event.Input name type.Int (value.Int number) in
    either state (ltb (length state.events) most_events) (recorded state e) (refused state (TooManyEvents most_events)) (recording state e) (refusing state (TooManyEvents most_events))

by_input : (state : State) (name text : List ℕ) → KeepsRefused state (input state name text)
by_input state name text =
    either state (has_input state.program name) (input_value state name (integer_of text)) (refused state (UnknownInput name)) (by_value state name (integer_of text)) (refusing state (UnknownInput name))

by_command : (state : State) (command : Command) (failed : Option Failure) → KeepsRefused state (next state command failed)
by_command state (Input name text) failed =
    either state (is_served name text) (input state name text) (refused state Unsupported) (by_input state name text) (refusing state Unsupported)
by_command state _ failed = λ refusal is. refl

pub refusal_keeps : RefusalsChangeNothing
refusal_keeps state (line.Command command) failed refusal is = by_command state command failed refusal is
refusal_keeps state _ failed refusal is = refl

pub unknown_first : UnknownInputsComeFirst
unknown_first state name text failed served is =
    ap (λ test. (if test then input state name text else refused state Unsupported).answer) served
    ∙ ap (λ known. (if known then input_value state name (integer_of text) else refused state (UnknownInput name)).answer) is

pub frames_at : FramesShowTheCursor
frames_at program events others cursor same count =
    ap (λ before. frame_text (record { cursor = cursor; events = length events; rows = screen program before; outs = []; pending = []; watches = []; logs = []; stop = None })) same
    ∙ ap (λ total. frame_text (record { cursor = cursor; events = total; rows = screen program (take cursor others); outs = []; pending = []; watches = []; logs = []; stop = None })) count

pub in_turn : AnswersInTurn
in_turn state [] others = refl
in_turn state (line ∷ lines) others =
    let step = next_line state line None in
    ap (λ more. answer_text step.state step.answer ++ more) (in_turn step.state lines others)
    ∙ sym (append_assoc (answer_text step.state step.answer) (answers step.state lines []) (answers (state_after step.state lines) others []))

-- the state that lines and then others leave
pub states_in_turn : (state : State) (lines others : List Line) → state_after state (lines ++ others) ≡ state_after (state_after state lines) others
states_in_turn state [] others = refl
states_in_turn state (line ∷ lines) others = states_in_turn (next_line state line None).state lines others
