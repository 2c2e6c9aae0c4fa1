-- Whether a run is stopped, and its longest running part.
use Rattle.std.specs.Prelude.{ℕ, suc, Bool, false, Option, Some, None, List, [], ◌∷◌, length}
use Rattle.elm_meaning.specs.Values.{Value}
use Rattle.signal_meaning.specs.Events.{Event}
use Rattle.signal_meaning.specs.StageOne.{Start, Cause, Begun, stage_one_of, network}
use Rattle.signal_meaning.specs.Nodes.{Say, Stop, Said}
use Rattle.signal_meaning.specs.Moments.{moment, value, changed, pending}

-- a top value in the order of groups, or a node
pub data Place : Type 0 where
  Top : (number : ℕ) → Place
  Node : (number : ℕ) → Place

pub data Run : Type 0 where
  Running : Run
  Stopped : (event : ℕ) (place : Place) (cause : Cause) → Run

-- a node that stops the run comes before the others
abbrev pub or_later : ℕ → ℕ → Say → Run → Run
or_later event k (Stop cause) later = Stopped event (Node k) cause
or_later event k _ later = later

-- by the first that stops, of the nodes from number k on
abbrev pub by_nodes : ℕ → ℕ → List Said → Run
by_nodes event k [] = Running
by_nodes event k (s ∷ ss) = or_later event k s.say (by_nodes event (suc k) ss)

abbrev pub top_or_later : Option Cause → ℕ → Run → Run
top_or_later None number later = later
top_or_later (Some cause) number later = Stopped 0 (Top number) cause

abbrev pub by_tops : Begun → Run → Run
by_tops b later = top_or_later b.stop (length b.values) later

-- a stopped run stays so
abbrev pub or_then : Run → Run → Run
or_then Running later = later
or_then (Stopped event place cause) later = Stopped event place cause

-- The run after a past: stopped at event 0 by the first fault of stage one, or else by the least node that stops; at a
-- later event by the least node that stops there.
abbrev pub run : Start → List Event → Run
run start [] = by_tops (stage_one_of start) (by_nodes 0 0 (moment (network start) []).said)
run start (e ∷ es) =
    or_then (run start es) (by_nodes (length (e ∷ es)) 0 (moment (network start) (e ∷ es)).said)

abbrev pub if_running : {A : Type 0} → Run → A → A → A
if_running Running a other = a
if_running (Stopped event place cause) a other = other

-- the longest running part of a past; there is none where event 0 stopped the run
abbrev pub good : Start → List Event → Option (List Event)
good start [] = if_running (run start []) (Some []) None
good start (e ∷ es) = if_running (run start (e ∷ es)) (Some (e ∷ es)) (good start es)

-- the value of a node as the frame shows it: at the longest running part
abbrev pub at_good : {A : Type 0} → Option (List Event) → (List Event → A) → A → A
at_good None show other = other
at_good (Some past) show other = show past

abbrev pub shown_value : Start → List Event → ℕ → Option Value
shown_value start past k = at_good (good start past) (λ es. Some (value (network start) es k)) None

abbrev pub shown_pending : Start → List Event → ℕ → List Value
shown_pending start past number = at_good (good start past) (λ es. pending (network start) es number) []

-- a stopped run changes nothing
abbrev pub shown_changed : Start → List Event → ℕ → Bool
shown_changed start past k = if_running (run start past) (changed (network start) past k) false
