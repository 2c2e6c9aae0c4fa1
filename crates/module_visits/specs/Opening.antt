-- A visit's beginning: the file of a module is read.
use Rattle.std.specs.Prelude.{◌≡◌, ◌<◌, ◌≤◌, ◌⊎◌, ℕ, List, Option, Some, None}
use Rattle.elm_base.specs.declared.tree.Module.{Module}
use Rattle.elm_base.specs.declared.fault.FaultKind.TheVariants as kind
use Rattle.elm_base.specs.declared.fault.ProjectFault.{ProjectFault}
use Rattle.reactor_outside.specs.Shelf.{Files}
use Rattle.module_visits.specs.Files.{file_of, held, fault_in, IsRead, IsWrong}

-- what keeps a project from being loaded: a fault of it, or a file whose read failed
pub data Stop : Type 0 where
  Fault : ProjectFault → Stop
  Failed : List ℕ → Stop

-- the modules that a project has at most, the library's aside
abbrev pub most_modules : ℕ
most_modules = 100

-- by whom a module is asked for: a module, at a line; Main by itself, at line 0
pub record Asker : Type 0 where
  pub importer : List ℕ
  pub line : ℕ

-- the module is read from its file, as one more than so many
abbrev pub OpensFrom : Option (List ℕ) → ℕ → List ℕ → Module → Type 0
OpensFrom file count name m = (text : List ℕ) × (file ≡ Some text) × (count < most_modules) × IsRead name text m

-- The module's file isn't there; or it is one module too many; or something is wrong with its file.
abbrev pub IsFaulty : Option (List ℕ) → ℕ → Asker → List ℕ → ProjectFault → Type 0
IsFaulty file count by name f =
    ((file ≡ None) × (f ≡ fault_in by.importer by.line kind.MissingModule name))
    ⊎ ((text : List ℕ) × (file ≡ Some text) × (most_modules ≤ count) × (f ≡ fault_in by.importer by.line kind.TooLarge name))
    ⊎ ((text : List ℕ) × (file ≡ Some text) × (count < most_modules) × IsWrong name text f)

-- a module is read for one that asks for it
abbrev pub Opens : Files → List ℕ → ℕ → List ℕ → Module → Type 0
Opens files folder count name m = OpensFrom (held files folder name) count name m

-- the visit stops before its imports: with a fault, or since the read of its file fails, as any read may
abbrev pub Stops : Files → List ℕ → ℕ → Asker → List ℕ → Stop → Type 0
Stops files folder count by name (Fault f) = IsFaulty (held files folder name) count by name f
Stops files folder count by name (Failed file) = file ≡ file_of folder name
