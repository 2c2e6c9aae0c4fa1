-- The value of a port after one event more.
use Rattle.std.proofs.Common.{◌≡◌, ◌+◌, ◌++◌, ◌∙◌, ℕ, ℤ, true, List, [], ◌∷◌, Some, None, length, sym, ap, refl, if◌then◌else◌, arith, length-append, eq-eqb}
use Rattle.std.specs.Prelude.{◌&&◌}
use Rattle.std.specs.Str.{bytes_eq}
use Rattle.elm_base.specs.declared.command.Command.TheVariants as command
use Rattle.elm_base.specs.declared.event.Event.{Event}
use Rattle.reactor_outside.specs.Shelf.{Files}
use Rattle.reactor_engine.specs.Session.{integer_event}
use Rattle.reactor_meaning.specs.Literal.{integer_of}
use Rattle.reactor_meaning.specs.Program.{after_event, after_events, value_of}
use Rattle.reactor_meaning.specs.Command.{State, Step, next, recorded, refused, input_value}
use Rattle.elm_base.specs.declared.command.CommandRefusal.TheVariants.{UnknownInput}
use Rattle.reactor_meaning.specs.Transcript.{frame_of, answer_text}

-- a text is the same as itself
pub bytes_eq-same : (text : List ℕ) → bytes_eq text text ≡ true
bytes_eq-same [] = refl
bytes_eq-same (byte ∷ rest) = ap (λ test. test && bytes_eq rest rest) (eq-eqb byte byte refl) ∙ bytes_eq-same rest

pub after_events-push : (port : List ℕ) (events : List Event) (e : Event) (old : ℤ) → after_events port (events ++ e ∷ []) old ≡ after_event port e (after_events port events old)
after_events-push port [] e old = refl
after_events-push port (first ∷ events) e old = after_events-push port events e (after_event port first old)

pub value_of-push : (port : List ℕ) (events : List Event) (number : ℤ) → value_of port (events ++ integer_event port number ∷ []) ≡ number
value_of-push port events number =
    after_events-push port events (integer_event port number) _
    ∙ ap (λ same. if same then number else value_of port events) (bytes_eq-same port)

-- a port shows the integer that it took last
pub agrees_after : (port name : List ℕ) (events now : List Event) (number : ℤ) → port ≡ name → now ≡ events ++ integer_event name number ∷ [] → value_of port now ≡ number
agrees_after port name events now number same is =
    ap (value_of port) is ∙ ap (λ p. value_of p (events ++ integer_event name number ∷ [])) same ∙ value_of-push name events number

abbrev pub state_at_end : List ℕ → List Event → Files → State
state_at_end port events files = record { program = record { port = port }; events = events; cursor = length events; files = files }

pub state_after : (files : Files) (port new_port : List ℕ) (events new_events : List Event) (e : Event) → new_port ≡ port → new_events ≡ events ++ e ∷ [] → state_at_end new_port new_events files ≡ (recorded (state_at_end port events files) e).state
state_after files port new_port events new_events e port_is events_is =
    let longer : length (events ++ e ∷ []) ≡ length events + 1 = omega (arith, length-append events (e ∷ [])) in
    ap (λ p. state_at_end p new_events files) port_is
    ∙ ap (λ es. state_at_end port es files) events_is
    ∙ ap (λ (n : ℕ). record { program = record { port = port }; events = events ++ e ∷ []; cursor = n; files = files }) longer
