-- What a program means, as far as programs are served: those of one inbound port of integers, which is shown.
use Rattle.std.specs.Prelude.{ℕ, ℤ, pos, Bool, if◌then◌else◌, List, [], ◌∷◌}
use Rattle.std.specs.Str.{bytes_eq}
use Rattle.std.specs.Fmt.{signed_decimal}
use Rattle.elm_base.specs.declared.event.Event.{Event}
use Rattle.elm_base.specs.declared.event.Event.TheVariants.{Input, Deliver}
use Rattle.elm_base.specs.declared.event.PortValue.{PortValue}
use Rattle.elm_base.specs.declared.event.PortValue.TheVariants as value

-- the program that shows this inbound port of integers
pub record Program : Type 0 where
  pub port : List ℕ

-- whether the program has an input of this name
abbrev pub has_input : Program → List ℕ → Bool
has_input program name = bytes_eq program.port name

-- the integer that a port has after taking this value: an integer port takes integers alone
abbrev pub integer_after : PortValue → ℤ → ℤ
integer_after (value.Int new) old = new
integer_after other old = old

-- the value of a port after one event more
abbrev pub after_event : List ℕ → Event → ℤ → ℤ
after_event port (Input name type given) old = if bytes_eq port name then integer_after given old else old
after_event port (Deliver number) old = old

-- the value of a port after events, from the value before them
abbrev pub after_events : List ℕ → List Event → ℤ → ℤ
after_events port [] old = old
after_events port (event ∷ events) old = after_events port events (after_event port event old)

-- the value of a port after the events of a run: it begins at 0
abbrev pub value_of : List ℕ → List Event → ℤ
value_of port events = after_events port events (pos 0)

-- the rows of the screen after these events
abbrev pub screen : Program → List Event → List (List ℕ)
screen program events = signed_decimal (value_of program.port events) ∷ []
