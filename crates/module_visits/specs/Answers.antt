-- What loading a project answers.
use Rattle.std.specs.Prelude.{◌≡◌, ℕ, List, Result, Ok, Err}
use Rattle.elm_base.specs.declared.tree.Module.{Module}
use Rattle.elm_base.specs.declared.project.Project.{Project}
use Rattle.reactor_outside.specs.Shelf.{Files}
use Rattle.reactor_outside.specs.Count.{Rose}
use Rattle.module_visits.specs.declared.stop.LoadStop.{LoadStop}
use Rattle.module_visits.specs.declared.stop.LoadStop.TheVariants as stop
use Rattle.module_visits.specs.Files.{file_of, held}
use Rattle.module_visits.specs.Opening.{Asker, Fault, Failed, Opens, IsFaulty}
use Rattle.module_visits.specs.Visits.{Agree, Loads, Outcome}

-- a failed call shows in the shelf's count, and every other answer leaves it
abbrev pub CountsLoad : {T : Type 0} → ℕ → ℕ → Result T LoadStop → Type 0
CountsLoad before after (Err (stop.Shelf file)) = Rose before after
CountsLoad before after _ = after ≡ before

module _ (files : Files) (folder : List ℕ) where
  -- the answer to a module's opening
  abbrev pub OpensAs : ℕ → Asker → List ℕ → Result Module LoadStop → Type 0
  OpensAs count by name (Ok m) = Opens files folder count name m
  OpensAs count by name (Err (stop.Fault f)) = IsFaulty (held files folder name) count by name f
  OpensAs count by name (Err (stop.Shelf file)) = file ≡ file_of folder name
  OpensAs count by name (Err stop.NoMemory) = Unit {0}

  -- the answer to a project: an outcome of its visits, or want of memory
  abbrev pub LoadsAs : Result Project LoadStop → Type 0
  LoadsAs (Ok project) = Loads files folder (Ok project.modules)
  LoadsAs (Err (stop.Fault f)) = Loads files folder (Err (Fault f))
  LoadsAs (Err (stop.Shelf file)) = Loads files folder (Err (Failed file))
  LoadsAs (Err stop.NoMemory) = Unit {0}

-- the answer is this outcome, unless a read or memory failed
abbrev pub AgreesAs : Outcome → Result Project LoadStop → Type 0
AgreesAs o (Ok project) = Agree o (Ok project.modules)
AgreesAs o (Err (stop.Fault f)) = Agree o (Err (Fault f))
AgreesAs o (Err (stop.Shelf file)) = Unit {0}
AgreesAs o (Err stop.NoMemory) = Unit {0}
