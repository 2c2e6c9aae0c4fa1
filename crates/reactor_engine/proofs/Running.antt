-- What the end of a run says, clause by clause.
use Rattle.std.proofs.Common.{◌≡◌, ◌≢◌, ◌<◌, ◌≤◌, ◌++◌, ◌∙◌, inl, inr, ⊎_elim, arith, ℕ, List, [], Option, Some, None, Ok, Err, length, take, ap, sym, subst, refl}
use Rattle.std.specs.Prelude.{IfSome}
use Rattle.elm_base.specs.declared.fault.ProjectFault.{ProjectFault}
use Rattle.reactor_outside.specs.Count.{Rose}
use Rattle.reactor_outside.specs.Sink.{with_bytes}
use Rattle.reactor_outside.specs.Shelf.{Files}
use Rattle.reactor_meaning.specs.Program.{Program}
use Rattle.reactor_meaning.specs.Command.{State, begun}
use Rattle.reactor_meaning.specs.Transcript.{frame_of, written_so_far}
use Rattle.frame_text.specs.Faults.{fault_line, shelf_line}
use Rattle.reactor_engine.specs.declared.status.Status.{Status}
use Rattle.reactor_engine.specs.declared.status.Status.TheVariants.{Done, Usage, ProjectRefused, ReadFault, WriteFault, ShelfFault, ScriptTooLong, NoMemory}
use Rattle.reactor_engine.specs.Project.{Compiles, main_file}
use Rattle.reactor_engine.specs.Serving.{Outside, Serves, max_script}
use Rattle.reactor_engine.specs.Run.{usage_text, Quiet, Ends, AsksFor, IsRefusal, UntilFault, UpToLimit, UsageRun, RunsProgram, ProjectRun, Run, Tells, Reports}
use Rattle.reactor_engine.proofs.Endings.{told_map}
use Rattle.reactor_engine.proofs.Projects.{not_program_and_fault}

pub no_files : Files
no_files name = None

-- a count that rose isn't quiet
rose_quiet : (before after : ℕ) → Rose before after → Quiet before after → ⊥
rose_quiet before after rose quiet = ⊎_elim (λ lt. omega (arith, quiet.0)) (λ last. omega (arith, quiet.1)) rose.shows

-- a text was told
pub usage_told : (before after : Outside) (status : Status) → Tells Usage usage_text before.writes after.writes before.taken after.taken status → UsageRun before after status
usage_told before after status (inl h) = let P : Status → Type 0 = λ s. UsageRun before after s in subst P (sym h.0) h.1
usage_told before after status (inr h) = let P : Status → Type 0 = λ s. UsageRun before after s in subst P (sym h.0) h.1

pub fault_reported : (project : List ℕ) (told : Option Files) (calls calls_end : ℕ) (before after : Outside) (fault : ProjectFault) (status : Status) → IfSome told (λ files. Compiles files project (Err fault)) → Reports ProjectRefused (fault_line fault) before.writes after.writes before.taken after.taken status → ProjectRun project told calls calls_end before after status
fault_reported project told calls calls_end before after fault status has (inl (inl h)) =
    let P : Status → Type 0 = λ s. ProjectRun project told calls calls_end before after s in
    subst P (sym h.0) (told_map told (λ files. Compiles files project (Err fault)) (λ files. (f : ProjectFault) × Compiles files project (Err f) × (after.taken ≡ with_bytes (fault_line f) before.taken)) (λ files compiles. (fault, compiles, h.1)) has)
fault_reported project told calls calls_end before after fault status has (inl (inr h)) = let P : Status → Type 0 = λ s. ProjectRun project told calls calls_end before after s in subst P (sym h.0) h.1
fault_reported project told calls calls_end before after fault status has (inr h) = let P : Status → Type 0 = λ s. ProjectRun project told calls calls_end before after s in subst P (sym h) tt

pub shelf_reported : (project : List ℕ) (told : Option Files) (calls calls_end : ℕ) (before after : Outside) (file : List ℕ) (status : Status) → Rose calls calls_end → file ≡ main_file project → Reports ShelfFault (shelf_line file) before.writes after.writes before.taken after.taken status → ProjectRun project told calls calls_end before after status
shelf_reported project told calls calls_end before after file status rose is (inl (inl h)) =
    let P : Status → Type 0 = λ s. ProjectRun project told calls calls_end before after s in
    subst P (sym h.0) (rose, h.1 ∙ ap (λ f. with_bytes (shelf_line f) before.taken) is)
shelf_reported project told calls calls_end before after file status rose is (inl (inr h)) = let P : Status → Type 0 = λ s. ProjectRun project told calls calls_end before after s in subst P (sym h.0) h.1
shelf_reported project told calls calls_end before after file status rose is (inr h) = let P : Status → Type 0 = λ s. ProjectRun project told calls calls_end before after s in subst P (sym h) tt

-- a script that is served: no other status than that of a failed read comes with a risen count of reads
pub served_reads : (shown : List ℕ) (first : State) (before after : Outside) (status : Status) → Serves shown first before after status → status ≢ ReadFault → after.reads ≡ before.reads
served_reads shown first before after Done serves other = serves.0.0
served_reads shown first before after ReadFault serves other = absurd (other refl)
served_reads shown first before after WriteFault serves other = serves.0
served_reads shown first before after ScriptTooLong serves other = serves.0.0
served_reads shown first before after NoMemory serves other = serves.0
served_reads shown first before after _ serves other = absurd serves

-- and so with writes
pub served_writes : (shown : List ℕ) (first : State) (before after : Outside) (status : Status) → Serves shown first before after status → status ≢ WriteFault → after.writes ≡ before.writes
served_writes shown first before after Done serves other = serves.0.1
served_writes shown first before after ReadFault serves other = serves.1
served_writes shown first before after WriteFault serves other = absurd (other refl)
served_writes shown first before after ScriptTooLong serves other = serves.0.1
served_writes shown first before after NoMemory serves other = serves.1
served_writes shown first before after _ serves other = absurd serves

runs_program : (project : List ℕ) (told : Option Files) (before after : Outside) (program : Program) (status : Status) → IfSome told (λ files. Compiles files project (Ok program)) → ((files : Files) → Serves (frame_of (begun program files)) (begun program files) before after status) → RunsProgram project told before after status
runs_program project None before after program status has serves = tt
runs_program project (Some files) before after program status has serves = (program, has, serves files)

-- a script was served
pub project_served : (project : List ℕ) (told : Option Files) (calls calls_end : ℕ) (before after : Outside) (program : Program) (status : Status) → IfSome told (λ files. Compiles files project (Ok program)) → ((files : Files) → Serves (frame_of (begun program files)) (begun program files) before after status) → ProjectRun project told calls calls_end before after status
project_served project told calls calls_end before after program Done has serves =
    (told_map before.left _ (λ script. length script ≤ max_script) (λ script both. both.0) (serves no_files).1, runs_program project told before after program Done has serves)
project_served project told calls calls_end before after program ReadFault has serves = ((serves no_files).0, runs_program project told before after program ReadFault has serves)
project_served project told calls calls_end before after program WriteFault has serves = (serves no_files).1
project_served project told calls calls_end before after program ScriptTooLong has serves =
    (told_map before.left _ (λ script. max_script < length script) (λ script both. both.0) (serves no_files).1, runs_program project told before after program ScriptTooLong has serves)
project_served project told calls calls_end before after program NoMemory has serves = tt
project_served project told calls calls_end before after program Usage has serves = absurd (serves no_files)
project_served project told calls calls_end before after program ProjectRefused has serves = absurd (serves no_files)
project_served project told calls calls_end before after program ShelfFault has serves = absurd (serves no_files)

done_ends : (project : List ℕ) (files : Files) (program : Program) (before after : Outside) → Compiles files project (Ok program) → Serves (frame_of (begun program files)) (begun program files) before after Done → IfSome before.left (λ script. length script ≤ max_script → Ends (Some project) files script before.taken Done after.taken)
done_ends project files program before after compiles serves = told_map before.left _ _ (λ script both short. (Ok program, compiles, (refl, both.1))) serves.1

refused_ends : (project : List ℕ) (files : Files) (left : Option (List ℕ)) (before after : Option (List ℕ)) → ((fault : ProjectFault) × Compiles files project (Err fault) × (after ≡ with_bytes (fault_line fault) before)) → IfSome left (λ script. length script ≤ max_script → Ends (Some project) files script before ProjectRefused after)
refused_ends project files None before after h = tt
refused_ends project files (Some script) before after h = λ short. (Err h.0, h.1, (refl, h.2))

usage_ends : (files : Files) (left : Option (List ℕ)) (before after : Option (List ℕ)) → after ≡ with_bytes usage_text before → IfSome left (λ script. length script ≤ max_script → Ends None files script before Usage after)
usage_ends files None before after h = tt
usage_ends files (Some script) before after h = λ short. (refl, h)

long_ends : (project : List ℕ) (files : Files) (left : Option (List ℕ)) (before after : Option (List ℕ)) → IfSome left (λ script. max_script < length script) → IfSome left (λ script. length script ≤ max_script → Ends (Some project) files script before ScriptTooLong after)
long_ends project files None before after h = tt
long_ends project files (Some script) before after h = λ short. absurd (omega (arith, h, short))

each_told : (told : Option Files) (P : Files → Type 0) → ((files : Files) → P files) → IfSome told P
each_told None P h = tt
each_told (Some files) P h = h files

-- the headline
pub headline : (asked : Option (List ℕ)) (told : Option Files) (calls calls_end : ℕ) (before after : Outside) (status : Status) → Run asked told calls calls_end before after status → Quiet calls calls_end → Quiet before.reads after.reads → Quiet before.writes after.writes → status ≢ NoMemory → IfSome told (λ files. IfSome before.left (λ script. length script ≤ max_script → Ends asked files script before.taken status after.taken))
headline None told calls calls_end before after Usage run c r w memory = each_told told _ (λ files. usage_ends files before.left before.taken after.taken run)
headline None told calls calls_end before after WriteFault run c r w memory = absurd (rose_quiet before.writes after.writes run w)
headline None told calls calls_end before after _ run c r w memory = absurd run
headline (Some project) told calls calls_end before after Done run c r w memory = told_map told _ _ (λ files h. done_ends project files h.0 before after h.1 h.2) run.1
headline (Some project) told calls calls_end before after ProjectRefused run c r w memory = told_map told _ _ (λ files h. refused_ends project files before.left before.taken after.taken h) run
headline (Some project) told calls calls_end before after ReadFault run c r w memory = absurd (rose_quiet before.reads after.reads run.0 r)
headline (Some project) told calls calls_end before after WriteFault run c r w memory = absurd (rose_quiet before.writes after.writes run w)
headline (Some project) told calls calls_end before after ShelfFault run c r w memory = absurd (rose_quiet calls calls_end run.0 c)
headline (Some project) told calls calls_end before after ScriptTooLong run c r w memory = each_told told _ (λ files. long_ends project files before.left before.taken after.taken run.0)
headline (Some project) told calls calls_end before after NoMemory run c r w memory = absurd (memory refl)
headline (Some project) told calls calls_end before after Usage run c r w memory = absurd run

no_program : (project : List ℕ) (files : Files) (before after : Outside) (served : Status) (fault : ProjectFault) (status : Status) → Compiles files project (Err fault) → RunsProgram project (Some files) before after served → IsRefusal status
no_program project files before after served fault status refused runs = absurd (not_program_and_fault files project runs.0 fault runs.1 refused)

refusing : (project : List ℕ) (files : Files) (calls calls_end : ℕ) (before after : Outside) (status : Status) → ProjectRun project (Some files) calls calls_end before after status → (fault : ProjectFault) → Compiles files project (Err fault) → IsRefusal status
refusing project files calls calls_end before after ProjectRefused run fault refused = inl refl
refusing project files calls calls_end before after WriteFault run fault refused = inr (inl refl)
refusing project files calls calls_end before after ShelfFault run fault refused = inr (inr (inl refl))
refusing project files calls calls_end before after NoMemory run fault refused = inr (inr (inr refl))
refusing project files calls calls_end before after Done run fault refused = no_program project files before after Done fault Done refused run.1
refusing project files calls calls_end before after ReadFault run fault refused = no_program project files before after ReadFault fault ReadFault refused run.1
refusing project files calls calls_end before after ScriptTooLong run fault refused = no_program project files before after ScriptTooLong fault ScriptTooLong refused run.1
refusing project files calls calls_end before after Usage run fault refused = absurd run

pub refused_always : (asked : Option (List ℕ)) (told : Option Files) (calls calls_end : ℕ) (before after : Outside) (status : Status) → Run asked told calls calls_end before after status → IfSome asked (λ project. IfSome told (λ files. (fault : ProjectFault) → Compiles files project (Err fault) → IsRefusal status))
refused_always None told calls calls_end before after status run = tt
refused_always (Some project) None calls calls_end before after status run = tt
refused_always (Some project) (Some files) calls calls_end before after status run = refusing project files calls calls_end before after status run

-- ---- what was written where a run ended early

until_fault : (project : List ℕ) (files : Files) (program : Program) (before after : Outside) → Serves (frame_of (begun program files)) (begun program files) before after ReadFault → IfSome before.left (λ script. IfSome after.left (λ rest. (text : List ℕ) × (script ≡ text ++ rest) × (after.taken ≡ with_bytes (written_so_far program files text) before.taken)))
until_fault project files program before after serves = serves.2

pub fault_wrote : (asked : Option (List ℕ)) (told : Option Files) (calls calls_end : ℕ) (before after : Outside) (status : Status) → Run asked told calls calls_end before after status → status ≡ ReadFault → AsksFor asked (UntilFault told before.left after.left before.taken after.taken)
fault_wrote asked told calls calls_end before after status run is = go asked (let P : Status → Type 0 = λ s. Run asked told calls calls_end before after s in subst P is run) where
  go : (asked : Option (List ℕ)) → Run asked told calls calls_end before after ReadFault → AsksFor asked (UntilFault told before.left after.left before.taken after.taken)
  go None run = run
  go (Some project) run = told_map told _ _ (λ files h. (h.0, h.1, until_fault project files h.0 before after h.2)) run.1

pub limit_wrote : (asked : Option (List ℕ)) (told : Option Files) (calls calls_end : ℕ) (before after : Outside) (status : Status) → Run asked told calls calls_end before after status → status ≡ ScriptTooLong → AsksFor asked (UpToLimit told before.left before.taken after.taken)
limit_wrote asked told calls calls_end before after status run is = go asked (let P : Status → Type 0 = λ s. Run asked told calls calls_end before after s in subst P is run) where
  go : (asked : Option (List ℕ)) → Run asked told calls calls_end before after ScriptTooLong → AsksFor asked (UpToLimit told before.left before.taken after.taken)
  go None run = run
  go (Some project) run = told_map told _ _ (λ files h. (h.0, h.1, told_map before.left _ (λ script. after.taken ≡ with_bytes (written_so_far h.0 files (take max_script script)) before.taken) (λ script both. both.1) h.2.1)) run.1

pub shelf_wrote : (asked : Option (List ℕ)) (told : Option Files) (calls calls_end : ℕ) (before after : Outside) (status : Status) → Run asked told calls calls_end before after status → status ≡ ShelfFault → AsksFor asked (λ project. after.taken ≡ with_bytes (shelf_line (main_file project)) before.taken)
shelf_wrote asked told calls calls_end before after status run is = go asked (let P : Status → Type 0 = λ s. Run asked told calls calls_end before after s in subst P is run) where
  go : (asked : Option (List ℕ)) → Run asked told calls calls_end before after ShelfFault → AsksFor asked (λ project. after.taken ≡ with_bytes (shelf_line (main_file project)) before.taken)
  go None run = run
  go (Some project) run = run.1
