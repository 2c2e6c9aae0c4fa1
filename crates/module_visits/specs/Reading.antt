-- What calls on the way to a module's opening ensure.
use Rattle.std.specs.Prelude.{◌≡◌, ◌≢◌, ◌<◌, ◌≤◌, ℕ, List, length, Option, Some, None, Result, Ok, Err}
use Rattle.elm_base.specs.declared.tree.Module.{Module}
use Rattle.elm_base.specs.declared.memory.Halt.{Halt}
use Rattle.elm_base.specs.declared.memory.Halt.TheVariants as halt
use Rattle.elm_base.specs.declared.fault.FaultKind.TheVariants as kind
use Rattle.elm_base.specs.declared.fault.ProjectFault.{ProjectFault}
use Rattle.layout_lexer.specs.declared.place.TextFault.{TextFault}
use Rattle.reactor_outside.specs.Shelf.{Files}
use Rattle.module_visits.specs.declared.opening.FileText.{FileText}
use Rattle.module_visits.specs.declared.opening.FileText.TheVariants.{Missing, TooLong, Text}
use Rattle.module_visits.specs.declared.opening.Importer.{Importer}
use Rattle.module_visits.specs.declared.stop.LoadStop.{LoadStop}
use Rattle.module_visits.specs.declared.stop.LoadStop.TheVariants as stop
use Rattle.module_visits.specs.Files.{most_bytes, file_of, held, fault_in, HasModule, HasFault, IsRead, IsWrong}
use Rattle.module_visits.specs.Opening.{Asker, OpensFrom, IsFaulty}

-- the one module of the text, or its first fault
abbrev pub Parses : List ℕ → Result Module (Halt TextFault) → Type 0
Parses text (Ok m) = HasModule text m
Parses text (Err (halt.Because f)) = HasFault text f
Parses text (Err halt.NoMemory) = Unit {0}

-- what stands at a module's file
abbrev pub IsText : Option (List ℕ) → FileText → Type 0
IsText file Missing = file ≡ None
IsText file TooLong = (text : List ℕ) × (file ≡ Some text) × (most_bytes < length text)
IsText file (Text bytes) = (file ≡ Some bytes.items) × (length bytes.items ≤ most_bytes)

-- the answer to a module's file
abbrev pub ReadsFile : Files → List ℕ → List ℕ → Result FileText LoadStop → Type 0
ReadsFile files folder name (Ok text) = IsText (held files folder name) text
ReadsFile files folder name (Err (stop.Fault f)) = ⊥
ReadsFile files folder name (Err (stop.Shelf file)) = file ≡ file_of folder name
ReadsFile files folder name (Err stop.NoMemory) = Unit {0}

-- this fault, or want of memory
abbrev pub IsFaultOrMemory : ProjectFault → LoadStop → Type 0
IsFaultOrMemory wanted (stop.Fault fault) = fault ≡ wanted
IsFaultOrMemory wanted (stop.Shelf file) = ⊥
IsFaultOrMemory wanted stop.NoMemory = Unit {0}

-- the module that is read from a text, or what is wrong there
abbrev pub ReadsModule : List ℕ → List ℕ → Result Module LoadStop → Type 0
ReadsModule name text (Ok m) = IsRead name text m
ReadsModule name text (Err (stop.Fault f)) = IsWrong name text f
ReadsModule name text (Err (stop.Shelf file)) = ⊥
ReadsModule name text (Err stop.NoMemory) = Unit {0}

-- no call of the shelf has failed
abbrev pub FailsInside : Result Module LoadStop → Type 0
FailsInside (Err (stop.Shelf file)) = ⊥
FailsInside _ = Unit {0}

-- what opening gives, by what stands at the module's file
abbrev pub OpensFile : Option (List ℕ) → ℕ → Asker → List ℕ → Result Module LoadStop → Type 0
OpensFile file count by name (Ok m) = OpensFrom file count name m
OpensFile file count by name (Err (stop.Fault f)) = IsFaulty file count by name f
OpensFile file count by name (Err (stop.Shelf s)) = ⊥
OpensFile file count by name (Err stop.NoMemory) = Unit {0}

-- who asks, as the code holds it
abbrev pub asker : Importer → Asker
asker by = record { importer = by.name.now; line = by.line }

-- the module, where it has this name, and else the fault at its header
abbrev pub IsNamed : List ℕ → Module → Result Module LoadStop → Type 0
IsNamed name m (Ok found) = (found ≡ m) × (m.name ≡ name)
IsNamed name m (Err (stop.Fault f)) = (m.name ≢ name) × (f ≡ fault_in name m.at.line kind.NameMismatch m.name)
IsNamed name m (Err (stop.Shelf file)) = ⊥
IsNamed name m (Err stop.NoMemory) = Unit {0}
