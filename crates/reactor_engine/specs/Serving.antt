-- How the run of a script ends.
use Rattle.std.specs.Prelude.{◌≡◌, ◌<◌, ◌≤◌, ◌⊎◌, ◌++◌, ℕ, List, [], length, take, Option, IfSome}
use Rattle.script_lines.specs.declared.line.Line.{Line}
use Rattle.script_lines.specs.Reading.{readings, whole_readings}
use Rattle.reactor_outside.specs.Count.{Rose}
use Rattle.reactor_outside.specs.Sink.{with_bytes}
use Rattle.reactor_meaning.specs.Command.{State}
use Rattle.reactor_meaning.specs.Transcript.{answers}
use Rattle.reactor_engine.specs.declared.status.Status.{Status}
use Rattle.reactor_engine.specs.declared.status.Status.TheVariants.{Done, ReadFault, WriteFault, ScriptTooLong, NoMemory}

-- the counts of failures of a source and a sink, and what they tell, at one moment
pub record Outside : Type 0 where
  pub reads : ℕ
  pub writes : ℕ
  pub left : Option (List ℕ)
  pub taken : Option (List ℕ)

-- how many bytes a script has at most
abbrev pub max_script : ℕ
max_script = 1073741824

-- behind what was shown before, the sink took the answers to these lines
abbrev pub TookAnswers : List ℕ → State → List Line → Outside → Outside → Type 0
TookAnswers shown first lines before after = after.taken ≡ with_bytes (shown ++ answers first lines []) before.taken

-- no read and no write failed
abbrev pub Undisturbed : Outside → Outside → Type 0
Undisturbed before after = (after.reads ≡ before.reads) × (after.writes ≡ before.writes)

-- What each status says of the run of a script from this state on: whether a read or a write failed, as the counts
-- show, and what was written behind what was shown before. Other statuses don't end the run of a script.
abbrev pub Serves : List ℕ → State → Outside → Outside → Status → Type 0
Serves shown first before after Done =
    Undisturbed before after
    × IfSome before.left (λ script. (length script ≤ max_script) × TookAnswers shown first (readings script) before after)
Serves shown first before after ReadFault =
    Rose before.reads after.reads × (after.writes ≡ before.writes)
    × IfSome before.left (λ script. IfSome after.left (λ rest.
    (text : List ℕ) × (script ≡ text ++ rest) × TookAnswers shown first (whole_readings text) before after))
Serves shown first before after WriteFault = (after.reads ≡ before.reads) × Rose before.writes after.writes
Serves shown first before after ScriptTooLong =
    Undisturbed before after
    × IfSome before.left (λ script.
    (max_script < length script) × TookAnswers shown first (whole_readings (take max_script script)) before after)
Serves shown first before after NoMemory = Undisturbed before after
Serves shown first before after _ = ⊥

-- why an answer was not written: a write failed, or memory ran out
abbrev pub Unwritten : ℕ → ℕ → Status → Type 0
Unwritten before after WriteFault = Rose before after
Unwritten before after NoMemory = after ≡ before
Unwritten before after _ = ⊥

-- the run ends so, with this fact and no failed write; or an answer was not written
abbrev pub EndsIn : Status → Type 0 → ℕ → ℕ → Status → Type 0
EndsIn wanted Fact before after status = ((status ≡ wanted) × (after ≡ before) × Fact) ⊎ Unwritten before after status
