-- For private contracts: how far lines and texts were read.
use Rattle.std.specs.Prelude.{◌≡◌, ◌≤◌, ℕ, length, List, [], ◌∷◌, ◌++◌, map, take, drop, Option, Some, None, Result, Ok, Err}
use denote.Ref.{Bor}
use Rattle.elm_base.specs.declared.token.Token.{Token}
use Rattle.elm_base.specs.Lexemes.{Lexeme, lexeme}
use Rattle.elm_base.specs.declared.tree.Declaration.{Declaration}
use Rattle.elm_base.specs.declared.tree.Module.{Module}
use Rattle.elm_base.specs.declared.memory.Halt.{Halt}
use Rattle.elm_base.specs.declared.memory.Halt.TheVariants as halt
use Rattle.elm_base.specs.declared.fault.ProjectFault.{ProjectFault}
use Rattle.layout_lexer.specs.declared.place.TextFault.{TextFault}
use Rattle.elm_library.specs.declared.source.Source.{Source}
use Rattle.elm_library.specs.declared.reading.Line.{Line}
use Rattle.elm_library.specs.Marks.{mark_of, line_len}
use Rattle.elm_library.specs.Reading.{BeginNoLine, Lines, FaultyBehind, AreModules, IsLibraryFault, IsModule, IsFault, fault_in}

-- Some texts were read.
pub record ReadTexts (all : List Source) (number : ℕ) (left : List Source) (now : List Module) : Type 0 where
  pub goes_on : (ms : List Module) → AreModules number left ms → AreModules 0 all (now ++ ms)
  pub fails_on : (f : ProjectFault) → IsLibraryFault number left f → IsLibraryFault 0 all f

-- a text's module or fault
abbrev pub ReadsText : ℕ → List ℕ → ℕ → Result Module (Halt TextFault) → Type 0
ReadsText number text last (Ok m) = IsModule number text m last
ReadsText number text last (Err (halt.Because f)) = IsFault number text f
ReadsText number text last (Err halt.NoMemory) = Unit {0}

-- the rest behind all lines, and what they declare; or the fault of one
abbrev pub ReadsLines : ℕ → List Lexeme → List Declaration → ℕ → List Declaration → Result (Bor (List Token)) (Halt TextFault) → Type 0
ReadsLines start all old last new (Ok rest) = (ds : List Declaration) × Lines start all ds last (map lexeme rest.now) × (new ≡ old ++ ds)
ReadsLines start all old last new (Err (halt.Because f)) = (ds : List Declaration) × FaultyBehind start all ds f
ReadsLines start all old last new (Err halt.NoMemory) = Unit {0}

-- the first line, where the tokens begin with one
abbrev pub IsNextLine : List Lexeme → Option Line → Type 0
IsNextLine ts None = BeginNoLine ts
IsNextLine ts (Some next) =
    (more : List Lexeme) × (length next.behind.now ≤ length more) × (ts ≡ lexeme next.first.now ∷ more) × (mark_of (lexeme next.first.now) ≡ Some next.mark)
    × (map lexeme next.line.now ≡ take (line_len more) more) × (map lexeme next.behind.now ≡ drop (line_len more) more)

-- a text's fault as one of the project, unless memory ran out
abbrev pub RefusesFor : Source → Halt TextFault → Halt ProjectFault → Type 0
RefusesFor s (halt.Because f) (halt.Because fault) = fault ≡ fault_in s f
RefusesFor s halt.NoMemory (halt.Because fault) = ⊥
RefusesFor s cause halt.NoMemory = Unit {0}

-- the module of a text is appended, or its fault told
abbrev pub PushesModule : ℕ → Source → ℕ → List Module → List Module → Result (Unit {0}) (Halt ProjectFault) → Type 0
PushesModule number s last old new (Ok done) = (m : Module) × IsModule number s.text.now m last × (new ≡ old ++ m ∷ [])
PushesModule number s last old new (Err (halt.Because fault)) = (f : TextFault) × IsFault number s.text.now f × (fault ≡ fault_in s f)
PushesModule number s last old new (Err halt.NoMemory) = Unit {0}
