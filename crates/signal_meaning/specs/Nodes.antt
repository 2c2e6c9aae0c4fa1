-- What a node says: one line for each kind of node.
use Rattle.std.specs.Prelude.{ℕ, Bool, true, false, ◌==◌, if◌then◌else◌, Option, Some, None, List, [], ◌∷◌, map, slice_index_or, codes}
use Rattle.std.specs.List.{list_any}
use Rattle.std.specs.Str.{bytes_eq}
use Rattle.elm_base.specs.declared.term.Note.{Note}
use Rattle.elm_base.specs.declared.term.RunFault.TheVariants as fault
use Rattle.elm_meaning.specs.declared.compared.Comparison.TheVariants.{Equality}
use Rattle.elm_meaning.specs.declared.compared.Outcome.{Outcome}
use Rattle.elm_meaning.specs.declared.compared.Outcome.TheVariants.{Equal, Different, FunctionMet, OutOfFuel}
use Rattle.elm_meaning.specs.Values.{Value, Made, NoValues, AndValue, no_value}
use Rattle.elm_meaning.specs.PairsVisited.{compared}
use Rattle.elm_meaning.specs.Equations.{Equation}
use Rattle.elm_meaning.specs.Progress.{Ending, Returns, Stops}
use Rattle.elm_meaning.specs.Evaluation.{truth_of}
use Rattle.elm_meaning.specs.Calls.{call_of}
use Rattle.signal_meaning.specs.Events.{Event, Taken, Delivered}
use Rattle.signal_meaning.specs.StageOne.{Cause, Network}

-- it keeps its value, changes to a new one, or stops the run
pub data Say : Type 0 where
  Same : Say
  Change : (value : Value) → Say
  Stop : (cause : Cause) → Say

-- what a node says, and the notes that its call recorded
pub record Said : Type 0 where
  pub say : Say
  pub notes : List Note

abbrev pub silent : Say → Said
silent s = record { say = s; notes = [] }

-- a call of a node's function, with fuel of its own, and what comes of its value
abbrev pub after_call : Ending → (Value → Say) → Said
after_call (Returns v s) go = record { say = go v; notes = s.notes }
after_call (Stops x s) go = record { say = Stop (Cause.Fault x); notes = s.notes }
after_call (Ending.NoRule s) go = record { say = Stop Cause.NoRule; notes = s.notes }

abbrev pub calls : Network → Value → List Value → (Value → Say) → Said
calls net f vs go = after_call (call_of net.tops f vs net.fuel) go

-- by a test: what it says where it holds, and where it doesn't
abbrev pub by_test : Option Bool → Say → Say → Say
by_test (Some true) held other = held
by_test (Some false) held other = other
by_test None held other = Stop Cause.NoRule

abbrev pub if_held : Value → Say → Value → Say
if_held v other result = by_test (truth_of result) (Change v) other

-- by a `Maybe`: the value inside `Just`, and the other where there is `Nothing`
abbrev pub by_name : List ℕ → Value → Say
by_name name v = if bytes_eq name (codes "Just") then Change v else Stop Cause.NoRule

abbrev pub if_just : Say → Value → Say
if_just other (Made name (AndValue v NoValues)) = by_name name v
if_just other (Made name NoValues) = if bytes_eq name (codes "Nothing") then other else Stop Cause.NoRule
if_just other _ = Stop Cause.NoRule

-- by a comparison with the node's value
abbrev pub unless_equal : Value → Outcome → Say
unless_equal v Equal = Same
unless_equal v Different = Change v
unless_equal v FunctionMet = Stop (Cause.Fault fault.FunctionEquality)
unless_equal v OutOfFuel = Stop (Cause.Fault fault.OutOfFuel)
unless_equal v _ = Stop Cause.NoRule

-- the first value of a node, by the first values of others
abbrev pub begins : Network → (ℕ → Value) → Equation → Said
begins net value (Equation.Input place) = silent (Change (slice_index_or net.inputs place no_value))
begins net value (Equation.Constant v) = silent (Change v)
begins net value (Equation.Map f inputs) = calls net f (map value inputs) Change
begins net value (Equation.Foldp f start input) = silent (Change start)
begins net value (Equation.Merge left right) = silent (Change (value left))
begins net value (Equation.Filter test first input) = calls net test (value input ∷ []) (if_held (value input) (Change first))
begins net value (Equation.FilterMap f first input) = calls net f (value input ∷ []) (if_just (Change first))
begins net value (Equation.DropRepeats input) = silent (Change (value input))
begins net value (Equation.SampleOn ticks input) = silent (Change (value input))
begins net value (Equation.Async input) = silent (Change (value input))

-- what an event brings to an input
abbrev pub brought : Event → ℕ → Say
brought (Taken input v) place = if input == place then Change v else Same
brought (Delivered async) place = Same

-- the oldest change that waits, where the event delivers it
abbrev pub oldest_of : Option Value → Say
oldest_of None = Same
oldest_of (Some v) = Change v

-- it says this where there was a change, and else keeps its value
abbrev pub where_changed : Bool → Said → Said
where_changed true said = said
where_changed false said = silent Same

-- What a node says at an event, by its old value, by the values and changes of others, and by what the event delivers to it.
abbrev pub answers : Network → Event → (ℕ → Value) → (ℕ → Bool) → Value → Option Value → Equation → Said
answers net e value changed old waiting (Equation.Input place) = silent (brought e place)
answers net e value changed old waiting (Equation.Constant v) = silent Same
answers net e value changed old waiting (Equation.Map f inputs) =
    where_changed (list_any changed inputs) (calls net f (map value inputs) Change)
answers net e value changed old waiting (Equation.Foldp f start input) =
    where_changed (changed input) (calls net f (value input ∷ old ∷ []) Change)
answers net e value changed old waiting (Equation.Merge left right) =
    silent (if changed left then Change (value left) else (if changed right then Change (value right) else Same))
answers net e value changed old waiting (Equation.Filter test first input) =
    where_changed (changed input) (calls net test (value input ∷ []) (if_held (value input) Same))
answers net e value changed old waiting (Equation.FilterMap f first input) =
    where_changed (changed input) (calls net f (value input ∷ []) (if_just Same))
answers net e value changed old waiting (Equation.DropRepeats input) =
    where_changed (changed input) (silent (unless_equal (value input) (compared Equality (value input) old net.fuel).outcome))
answers net e value changed old waiting (Equation.SampleOn ticks input) =
    where_changed (changed ticks) (silent (Change (value input)))
answers net e value changed old waiting (Equation.Async input) = silent (oldest_of waiting)
