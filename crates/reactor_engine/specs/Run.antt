-- The run of the program: what its words, the files and the script give.
use Rattle.std.specs.Prelude.{◌≡◌, ◌⊎◌, ◌<◌, ◌≤◌, ◌++◌, ℕ, List, [], length, take, codes, Option, Some, None, Result, Ok, Err, IfSome}
use Rattle.elm_base.specs.declared.fault.ProjectFault.{ProjectFault}
use Rattle.reactor_outside.specs.Count.{Rose}
use Rattle.reactor_outside.specs.Sink.{with_bytes}
use Rattle.reactor_outside.specs.Shelf.{Files}
use Rattle.reactor_meaning.specs.Program.{Program}
use Rattle.reactor_meaning.specs.Command.{begun}
use Rattle.reactor_meaning.specs.Transcript.{frame_of, transcript, written_so_far}
use Rattle.frame_text.specs.Faults.{fault_line, shelf_line}
use Rattle.reactor_engine.specs.declared.status.Status.{Status}
use Rattle.reactor_engine.specs.declared.status.Status.TheVariants.{Done, Usage, ProjectRefused, ReadFault, WriteFault, ShelfFault, ScriptTooLong, NoMemory}
use Rattle.reactor_engine.specs.Project.{Compiles, main_file}
use Rattle.reactor_engine.specs.Serving.{Outside, Serves, max_script}

-- the text that says how the program is called
abbrev pub usage_text : List ℕ
usage_text = codes "usage: reactor run PROJECT\n"

-- A count of failures didn't rise, and could have: it doesn't stand at the last number of 64 bits.
abbrev pub Quiet : ℕ → ℕ → Type 0
Quiet before after = (after ≡ before) × (after < 18446744073709551615)

-- How a run ends whose project gives this, and what was written: the transcript, or the line of the fault.
abbrev pub EndsWith : Result Program ProjectFault → Files → List ℕ → Option (List ℕ) → Status → Option (List ℕ) → Type 0
EndsWith (Ok program) files script before status after =
    (status ≡ Done) × (after ≡ with_bytes (transcript program files script []) before)
EndsWith (Err fault) files script before status after =
    (status ≡ ProjectRefused) × (after ≡ with_bytes (fault_line fault) before)

-- How a run ends while memory suffices and nothing outside fails: by the project that the words ask to run, or with
-- the usage text where they ask for none.
abbrev pub Ends : Option (List ℕ) → Files → List ℕ → Option (List ℕ) → Status → Option (List ℕ) → Type 0
Ends None files script before status after = (status ≡ Usage) × (after ≡ with_bytes usage_text before)
Ends (Some project) files script before status after =
    (given : Result Program ProjectFault) × Compiles files project given × EndsWith given files script before status after

-- the project has a fault, where the files are told
abbrev pub HasFault : Option Files → List ℕ → Type 0
HasFault told project = IfSome told (λ files. (fault : ProjectFault) × Compiles files project (Err fault))

-- the words ask to run a project of which this holds
abbrev pub AsksFor : Option (List ℕ) → (List ℕ → Type 0) → Type 0
AsksFor None P = ⊥
AsksFor (Some project) P = P project

-- the answer to a project with a fault: that it is refused, save that a failure or want of memory may come first
abbrev pub IsRefusal : Status → Type 0
IsRefusal status = (status ≡ ProjectRefused) ⊎ ((status ≡ WriteFault) ⊎ ((status ≡ ShelfFault) ⊎ (status ≡ NoMemory)))

-- ---- what was written where a run ended early

-- The first frame and the answers to the whole lines of some first bytes of the script were written, those before what
-- is left of it.
abbrev pub UntilFault : Option Files → Option (List ℕ) → Option (List ℕ) → Option (List ℕ) → Option (List ℕ) → List ℕ → Type 0
UntilFault told left left_end taken taken_end project =
    IfSome told (λ files. (program : Program) × Compiles files project (Ok program)
    × IfSome left (λ script. IfSome left_end (λ rest.
    (text : List ℕ) × (script ≡ text ++ rest) × (taken_end ≡ with_bytes (written_so_far program files text) taken))))

-- the same of as many first bytes as a script may have
abbrev pub UpToLimit : Option Files → Option (List ℕ) → Option (List ℕ) → Option (List ℕ) → List ℕ → Type 0
UpToLimit told left taken taken_end project =
    IfSome told (λ files. (program : Program) × Compiles files project (Ok program)
    × IfSome left (λ script. taken_end ≡ with_bytes (written_so_far program files (take max_script script)) taken))

-- ---- what each status says, for the proof of the clauses above

-- a run without a project to run
abbrev pub UsageRun : Outside → Outside → Status → Type 0
UsageRun before after Usage = after.taken ≡ with_bytes usage_text before.taken
UsageRun before after WriteFault = Rose before.writes after.writes
UsageRun before after _ = ⊥

-- the project's program served the script, where the files are told
abbrev pub RunsProgram : List ℕ → Option Files → Outside → Outside → Status → Type 0
RunsProgram project told before after status =
    IfSome told (λ files. (program : Program) × Compiles files project (Ok program)
    × Serves (frame_of (begun program files)) (begun program files) before after status)

-- the run of a project, with the files that are told, and the shelf's count before and after
abbrev pub ProjectRun : List ℕ → Option Files → ℕ → ℕ → Outside → Outside → Status → Type 0
ProjectRun project told calls calls_end before after Done =
    IfSome before.left (λ script. length script ≤ max_script) × RunsProgram project told before after Done
ProjectRun project told calls calls_end before after ProjectRefused =
    IfSome told (λ files. (fault : ProjectFault) × Compiles files project (Err fault)
    × (after.taken ≡ with_bytes (fault_line fault) before.taken))
ProjectRun project told calls calls_end before after ReadFault =
    Rose before.reads after.reads × RunsProgram project told before after ReadFault
ProjectRun project told calls calls_end before after WriteFault = Rose before.writes after.writes
ProjectRun project told calls calls_end before after ShelfFault =
    Rose calls calls_end × (after.taken ≡ with_bytes (shelf_line (main_file project)) before.taken)
ProjectRun project told calls calls_end before after ScriptTooLong =
    IfSome before.left (λ script. max_script < length script) × RunsProgram project told before after ScriptTooLong
ProjectRun project told calls calls_end before after NoMemory = Unit {0}
ProjectRun project told calls calls_end before after Usage = ⊥

abbrev pub Run : Option (List ℕ) → Option Files → ℕ → ℕ → Outside → Outside → Status → Type 0
Run None told calls calls_end before after status = UsageRun before after status
Run (Some project) told calls calls_end before after status = ProjectRun project told calls calls_end before after status

-- a text that ends a run was written, and this status tells so, or the write failed
abbrev pub Tells : Status → List ℕ → ℕ → ℕ → Option (List ℕ) → Option (List ℕ) → Status → Type 0
Tells wanted text before after taken taken_end status =
    ((status ≡ wanted) × (taken_end ≡ with_bytes text taken)) ⊎ ((status ≡ WriteFault) × Rose before after)

-- the same, or memory ran out
abbrev pub Reports : Status → List ℕ → ℕ → ℕ → Option (List ℕ) → Option (List ℕ) → Status → Type 0
Reports wanted text before after taken taken_end status =
    Tells wanted text before after taken taken_end status ⊎ (status ≡ NoMemory)
