-- How a script is answered as its bytes come.
use Rattle.std.specs.Prelude.{◌≡◌, ◌++◌, ℕ, List, [], Option}
use Rattle.script_lines.specs.declared.line.Line.{Line}
use Rattle.script_lines.specs.Reading.{readings, whole_readings}
use Rattle.reactor_outside.specs.Shelf.{Files}
use Rattle.reactor_outside.specs.Sink.{with_bytes}
use Rattle.reactor_meaning.specs.Command.{State}
use Rattle.reactor_meaning.specs.Transcript.{answers, state_after}
use Rattle.reactor_engine.specs.declared.session.Session.{Session}
use Rattle.reactor_engine.specs.Session.{state_of}

-- From a state on, a script was read so far: what its lines said that were handed out led to the state now, their
-- answers went to the sink, and what is left of it says the rest, whatever follows.
pub record Served (first : State) (script : List ℕ) (now : State) (left : List ℕ) (start taken : Option (List ℕ)) : Type 0 where
  pub said : List Line
  pub says : (more : List ℕ) → readings (script ++ more) ≡ said ++ readings (left ++ more)
  pub state : now ≡ state_after first said
  pub written : taken ≡ with_bytes (answers first said []) start

-- From one session and what is left of the script to the next: lines were answered, and their answers are to be
-- written.
abbrev pub KeepsServed : Session → List ℕ → List ℕ → Session → List ℕ → List ℕ → Type 0
KeepsServed old left out new left_now out_now =
    (files : Files) (first : State) (script : List ℕ) (start taken : Option (List ℕ))
    → Served first script (state_of old files) left start (with_bytes out taken)
    → Served first script (state_of new files) left_now start (with_bytes out_now taken)

-- the same over a piece of the script, with the answers behind those that are to be written already
abbrev pub TakesPiece : List ℕ → Session → List ℕ → List ℕ → Session → List ℕ → List ℕ → Type 0
TakesPiece piece old left out new left_now out_now =
    (files : Files) (first : State) (script : List ℕ) (start taken : Option (List ℕ))
    → Served first script (state_of old files) left start (with_bytes out taken)
    → Served first (script ++ piece) (state_of new files) left_now start (with_bytes out_now taken)

-- the same with the answers written
abbrev pub WritesPiece : List ℕ → Session → List ℕ → Option (List ℕ) → Session → List ℕ → Option (List ℕ) → Type 0
WritesPiece piece old left taken new left_now taken_now =
    (files : Files) (first : State) (script : List ℕ) (start : Option (List ℕ))
    → Served first script (state_of old files) left start taken
    → Served first (script ++ piece) (state_of new files) left_now start taken_now

-- the sink has taken the answers to all lines of the script, where nothing is to follow
abbrev pub WritesAll : Session → List ℕ → Option (List ℕ) → Option (List ℕ) → Type 0
WritesAll old left taken taken_now =
    (files : Files) (first : State) (script : List ℕ) (start : Option (List ℕ))
    → Served first script (state_of old files) left start taken
    → taken_now ≡ with_bytes (answers first (readings script) []) start

-- the sink has taken the answers to the whole lines of the script with this piece behind it
abbrev pub WritesWhole : List ℕ → Session → List ℕ → Option (List ℕ) → Option (List ℕ) → Type 0
WritesWhole piece old left taken taken_now =
    (files : Files) (first : State) (script : List ℕ) (start : Option (List ℕ))
    → Served first script (state_of old files) left start taken
    → taken_now ≡ with_bytes (answers first (whole_readings (script ++ piece)) []) start
