-- The notes of a run, the watch table and the logs of an event.
use Rattle.std.specs.Prelude.{ℕ, if◌then◌else◌, Option, Some, None, List, [], ◌∷◌, ◌++◌}
use Rattle.std.specs.Str.{bytes_eq}
use Rattle.elm_base.specs.declared.term.Note.{Note}
use Rattle.elm_base.specs.declared.term.NoteKind.{NoteKind}
use Rattle.elm_base.specs.declared.term.NoteKind.TheVariants.{Watch, Log}
use Rattle.signal_meaning.specs.Events.{Event}
use Rattle.signal_meaning.specs.StageOne.{Start, Cause, stage_one_of, network}
use Rattle.signal_meaning.specs.Nodes.{Say, Stop, Said}
use Rattle.signal_meaning.specs.Moments.{moment}
use Rattle.signal_meaning.specs.Outcomes.{run, if_running}

-- none after a node that stops
abbrev pub unless_stop : Say → List Note → List Note
unless_stop (Stop cause) later = []
unless_stop _ later = later

-- those of each node in turn, up to the first that stops
abbrev pub node_notes : List Said → List Note
node_notes [] = []
node_notes (s ∷ ss) = s.notes ++ unless_stop s.say (node_notes ss)

abbrev pub unless_stopped : Option Cause → List Note → List Note
unless_stopped None later = later
unless_stopped (Some cause) later = []

-- the notes of the last event: of event 0 those of the top values, then those of the nodes; none of an event after a stop
abbrev pub event_notes : Start → List Event → List Note
event_notes start [] =
    (stage_one_of start).notes ++ unless_stopped (stage_one_of start).stop (node_notes (moment (network start) []).said)
event_notes start (e ∷ es) = if_running (run start es) (node_notes (moment (network start) (e ∷ es)).said) []

-- the notes of all events in order
abbrev pub notes : Start → List Event → List Note
notes start [] = event_notes start []
notes start (e ∷ es) = notes start es ++ event_notes start (e ∷ es)

-- tags with texts
abbrev pub Table : Type 0
Table = List (List ℕ × List ℕ)

-- the text of a tag that is there is replaced, and a new tag stands behind
abbrev pub put_text : List ℕ → List ℕ → Table → Table
put_text tag text [] = (tag, text) ∷ []
put_text tag text (entry ∷ more) =
    if bytes_eq tag entry.0 then (tag, text) ∷ more else entry ∷ put_text tag text more

abbrev pub put_watch : NoteKind → List ℕ → List ℕ → Table → Table
put_watch Watch tag text table = put_text tag text table
put_watch Log tag text table = table

abbrev pub watched_after : Table → List Note → Table
watched_after table [] = table
watched_after table (n ∷ ns) = watched_after (put_watch n.kind n.tag n.text table) ns

-- the last text of each tag, in the order of first record
abbrev pub watches : Start → List Event → Table
watches start past = watched_after [] (notes start past)

abbrev pub log_entry : NoteKind → List ℕ → List ℕ → Table
log_entry Watch tag text = []
log_entry Log tag text = (tag, text) ∷ []

abbrev pub log_entries : List Note → Table
log_entries [] = []
log_entries (n ∷ ns) = log_entry n.kind n.tag n.text ++ log_entries ns

-- the logs of the last event
abbrev pub logs : Start → List Event → Table
logs start past = log_entries (event_notes start past)
