-- One event of a run: an input takes a value, or an async delivers its oldest change.
use Rattle.std.specs.Prelude.{ℕ}
use Rattle.elm_meaning.specs.Values.{Value}

-- inputs go by their places among the program's inputs, asyncs by numbers of their own
pub data Event : Type 0 where
  Taken : (input : ℕ) (value : Value) → Event
  Delivered : (async : ℕ) → Event
