-- The lines on a project that is refused.
use Rattle.std.specs.Prelude.{ℕ, List, [], ◌∷◌, codes, decimal}
use Rattle.elm_base.specs.declared.fault.FaultKind.{FaultKind}
use Rattle.elm_base.specs.declared.fault.FaultKind.TheVariants as kind
use Rattle.elm_base.specs.declared.fault.ProjectFault.{ProjectFault}
use Rattle.frame_text.specs.Lines.{line, words}

-- the line of a refusal: its name, and what it is about
abbrev pub refused : List (List ℕ) → List ℕ
refused about = line (words (codes "refused" ∷ about))

-- the name of a fault
abbrev pub kind_text : FaultKind → List ℕ
kind_text kind.MissingModule = codes "MissingModule"
kind_text kind.TooLarge = codes "TooLarge"
kind_text kind.NotUtf8 = codes "NotUtf8"
kind_text kind.Tab = codes "Tab"
kind_text kind.BadChar = codes "BadChar"
kind_text kind.OpenString = codes "OpenString"
kind_text kind.OpenComment = codes "OpenComment"
kind_text kind.IntTooWide = codes "IntTooWide"
kind_text kind.Excluded = codes "Excluded"
kind_text kind.BadHeader = codes "BadHeader"
kind_text kind.BadDeclaration = codes "BadDeclaration"
kind_text kind.NameMismatch = codes "NameMismatch"
kind_text kind.ImportCycle = codes "ImportCycle"
kind_text kind.BadFixity = codes "BadFixity"
kind_text kind.Duplicate = codes "Duplicate"
kind_text kind.UnknownName = codes "UnknownName"
kind_text kind.Ambiguous = codes "Ambiguous"
kind_text kind.NotExposed = codes "NotExposed"
kind_text kind.CyclicValue = codes "CyclicValue"
kind_text kind.BadType = codes "BadType"
kind_text kind.BadPort = codes "BadPort"
kind_text kind.IllTyped = codes "IllTyped"
kind_text kind.BadMain = codes "BadMain"
kind_text kind.Unsupported = codes "Unsupported"

-- a name, or a dash where there is none
abbrev pub name_or_dash : List ℕ → List ℕ
name_or_dash [] = codes "-"
name_or_dash (byte ∷ rest) = byte ∷ rest

-- the line that says which fault a project has: in which module, at which line, which, and about which name
abbrev pub fault_line : ProjectFault → List ℕ
fault_line fault = refused (
    codes "ProjectRefused" ∷ fault.module ∷ decimal fault.line ∷ kind_text fault.kind ∷ name_or_dash fault.name ∷ [])

-- the line that says that a call on the shelf failed
abbrev pub shelf_line : List ℕ → List ℕ
shelf_line file = refused (codes "Shelf" ∷ file ∷ [])
