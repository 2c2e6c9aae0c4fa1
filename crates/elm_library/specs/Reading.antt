-- What the texts of the library give: lines in front of a header, each with what it declares, and the module behind them.
use Rattle.std.specs.Prelude.{◌≡◌, ◌⊎◌, ℕ, List, [], ◌∷◌, ◌++◌, take, drop, Option, Some, None}
use Rattle.elm_base.specs.Lexemes.{Lexeme}
use Rattle.elm_base.specs.declared.tree.Declaration.{Declaration}
use Rattle.elm_base.specs.declared.tree.Module.{Module}
use Rattle.elm_base.specs.declared.fault.FaultKind.TheVariants as kind
use Rattle.elm_base.specs.declared.fault.ProjectFault.{ProjectFault}
use Rattle.layout_lexer.specs.declared.place.TextFault.{TextFault}
use Rattle.layout_lexer.specs.Tokens.{Tokens, FirstFault as FirstBadToken}
use Rattle.module_grammar.specs.Modules.{DerivesModule, FirstFault, Fit, Nest}
use Rattle.elm_library.specs.declared.mark.Mark.{Mark}
use Rattle.elm_library.specs.declared.source.Source.{Source}
use Rattle.elm_library.specs.Marks.{mark_of, number_behind, line_len, Declares}

-- no line begins with these tokens
abbrev pub BeginNoLine : List Lexeme → Type 0
BeginNoLine [] = Unit {0}
BeginNoLine (t ∷ ts) = mark_of t ≡ None

-- The lines in front declare these, one each; the number of the next native is the last, and the rest stands behind them.
abbrev pub Lines : ℕ → List Lexeme → List Declaration → ℕ → List Lexeme → Type 0
Lines number ts [] last rest = (number ≡ last) × (rest ≡ ts) × BeginNoLine ts
Lines number [] (d ∷ ds) last rest = ⊥
Lines number (t ∷ ts) (d ∷ ds) last rest =
    (mark : Mark) × (mark_of t ≡ Some mark) × Declares mark t.at number (take (line_len ts) ts) d
    × Lines (number_behind mark number) (drop (line_len ts) ts) ds last rest

abbrev pub bad_line : Lexeme → TextFault
bad_line t = record { line = t.at.line; kind = kind.BadDeclaration }

-- behind lines that declare these, one declares nothing
abbrev pub FaultyBehind : ℕ → List Lexeme → List Declaration → TextFault → Type 0
FaultyBehind number [] ds f = ⊥
FaultyBehind number (t ∷ ts) [] f =
    (mark : Mark) × (mark_of t ≡ Some mark) × ((d : Declaration) → Declares mark t.at number (take (line_len ts) ts) d → ⊥) × (f ≡ bad_line t)
FaultyBehind number (t ∷ ts) (d ∷ ds) f =
    (mark : Mark) × (mark_of t ≡ Some mark) × Declares mark t.at number (take (line_len ts) ts) d
    × FaultyBehind (number_behind mark number) (drop (line_len ts) ts) ds f

-- the first line that declares nothing
abbrev pub IsFaultyLine : ℕ → List Lexeme → TextFault → Type 0
IsFaultyLine number ts f = (ds : List Declaration) × FaultyBehind number ts ds f

abbrev pub with_lines : List Declaration → Module → Module
with_lines ds m = record { at = m.at; name = m.name; exposes = m.exposes; imports = m.imports; declarations = ds ++ m.declarations }

-- a text's module, whose natives are numbered from a number on
pub record IsModule (number : ℕ) (text : List ℕ) (m : Module) (last : ℕ) : Type 0 where
  pub tokens : List Lexeme
  pub lines : List Declaration
  pub rest : List Lexeme
  pub own : Module
  pub cut : Tokens text tokens
  pub declared : Lines number tokens lines last rest
  pub derives : DerivesModule rest own
  pub nests : Nest own.declarations
  pub fits : Fit own.declarations
  pub whole : m ≡ with_lines lines own

-- a text's first fault: of its tokens, of its lines, of the module behind them
abbrev pub IsFault : ℕ → List ℕ → TextFault → Type 0
IsFault number text f =
    FirstBadToken text f
    ⊎ ((ts : List Lexeme) × Tokens text ts × IsFaultyLine number ts f)
    ⊎ ((ts : List Lexeme) × (ds : List Declaration) × (last : ℕ) × (rest : List Lexeme) × Tokens text ts × Lines number ts ds last rest × FirstFault rest f)

-- the modules of the texts, in order; natives are numbered through all of them
abbrev pub AreModules : ℕ → List Source → List Module → Type 0
AreModules number [] ms = ms ≡ []
AreModules number (s ∷ ss) [] = ⊥
AreModules number (s ∷ ss) (m ∷ ms) = (last : ℕ) × IsModule number s.text.now m last × AreModules last ss ms

abbrev pub fault_in : Source → TextFault → ProjectFault
fault_in s f = record { «module» = s.name.now; line = f.line; kind = f.kind; name = [] }

-- the fault of the first text that has one
abbrev pub IsLibraryFault : ℕ → List Source → ProjectFault → Type 0
IsLibraryFault number [] fault = ⊥
IsLibraryFault number (s ∷ ss) fault =
    ((f : TextFault) × IsFault number s.text.now f × (fault ≡ fault_in s f))
    ⊎ ((m : Module) × (last : ℕ) × IsModule number s.text.now m last × IsLibraryFault last ss fault)
