-- What loading a project answers.
use Rattle.std.specs.Prelude.{◌≡◌, ℕ, List, Result, Ok, Err}
use Rattle.elm_base.specs.declared.fault.ProjectFault.{ProjectFault}
use Rattle.reactor_outside.specs.Shelf.{Files}
use Rattle.reactor_outside.specs.Count.{Rose}
use Rattle.reactor_engine.specs.declared.project.LoadStop.{LoadStop}
use Rattle.reactor_engine.specs.declared.project.LoadStop.TheVariants.{Fault, Shelf, NoMemory}
use Rattle.reactor_engine.specs.Project.{Compiles, TextGives, main_file}

-- the answer to the text of Main
abbrev pub ReadsText : List ℕ → Result (List ℕ) LoadStop → Type 0
ReadsText text (Ok port) = TextGives text (Ok (record { port = port }))
ReadsText text (Err (Fault fault)) = TextGives text (Err fault)
ReadsText text (Err (Shelf file)) = ⊥
ReadsText text (Err NoMemory) = Unit {0}

-- the answer to a project, by the files that are told
abbrev pub Loads : Files → List ℕ → Result (List ℕ) LoadStop → Type 0
Loads files project (Ok port) = Compiles files project (Ok (record { port = port }))
Loads files project (Err (Fault fault)) = Compiles files project (Err fault)
Loads files project (Err (Shelf file)) = file ≡ main_file project
Loads files project (Err NoMemory) = Unit {0}

-- the file of a failed call is that of Main
abbrev pub NamesMain : List ℕ → Result (List ℕ) LoadStop → Type 0
NamesMain project (Err (Shelf file)) = file ≡ main_file project
NamesMain project _ = Unit {0}

-- a failed call shows in the shelf's count, and every other answer leaves it
abbrev pub CountsLoad : ℕ → ℕ → Result (List ℕ) LoadStop → Type 0
CountsLoad before after (Ok port) = after ≡ before
CountsLoad before after (Err (Fault fault)) = after ≡ before
CountsLoad before after (Err (Shelf file)) = Rose before after
CountsLoad before after (Err NoMemory) = after ≡ before

-- this fault, or want of memory
abbrev pub IsFaultOrMemory : ProjectFault → LoadStop → Type 0
IsFaultOrMemory wanted (Fault fault) = fault ≡ wanted
IsFaultOrMemory wanted (Shelf file) = ⊥
IsFaultOrMemory wanted NoMemory = Unit {0}
