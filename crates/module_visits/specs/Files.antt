-- The files of a project, and what one of them has.
use Rattle.std.specs.Prelude.{◌≡◌, ◌≢◌, ◌<◌, ◌≤◌, ◌==◌, ◌⊎◌, ◌&&◌, ℕ, Bool, if◌then◌else◌, List, [], ◌++◌, length, map, codes, Option, None}
use Rattle.std.specs.Str.{is_utf8}
use Rattle.elm_base.specs.Lexemes.{Lexeme}
use Rattle.elm_base.specs.declared.tree.Module.{Module}
use Rattle.elm_base.specs.declared.fault.FaultKind.{FaultKind}
use Rattle.elm_base.specs.declared.fault.FaultKind.TheVariants as kind
use Rattle.elm_base.specs.declared.fault.ProjectFault.{ProjectFault}
use Rattle.layout_lexer.specs.declared.place.TextFault.{TextFault}
use Rattle.layout_lexer.specs.Tokens.{Tokens, FirstFault as FirstBadToken}
use Rattle.module_grammar.specs.Modules.{DerivesModule, FirstFault, Fit, Nest}
use Rattle.reactor_outside.specs.Shelf.{Files}
use Rattle.script_lines.specs.Names.{is_file_name}

-- the bytes that a source file has at most
abbrev pub most_bytes : ℕ
most_bytes = 262144

-- a point in a module's name is a slash in the name of its file
abbrev pub slash_for : ℕ → ℕ
slash_for byte = if byte == 46 then 47 else byte

abbrev pub slashed : List ℕ → List ℕ
slashed name = map slash_for name

-- the file of a module: `A.B` stands in `A/B.elm`
abbrev pub file_of : List ℕ → List ℕ → List ℕ
file_of folder name = folder ++ codes "/" ++ slashed name ++ codes ".elm"

-- a path names a file: a text of that form
abbrev pub names_file : List ℕ → Bool
names_file path = is_utf8 path && is_file_name path

-- the file of a module, where there is one; what isn't the name of a file names none
abbrev pub held : Files → List ℕ → List ℕ → Option (List ℕ)
held files folder name = if names_file (file_of folder name) then files (file_of folder name) else None

-- a text's one module
pub record HasModule (text : List ℕ) (m : Module) : Type 0 where
  pub tokens : List Lexeme
  pub cut : Tokens text tokens
  pub derives : DerivesModule tokens m
  pub nests : Nest m.declarations
  pub fits : Fit m.declarations

-- a text's first fault: one of its tokens, or where these are right one of its declarations
abbrev pub HasFault : List ℕ → TextFault → Type 0
HasFault text f = FirstBadToken text f ⊎ ((ts : List Lexeme) × Tokens text ts × FirstFault ts f)

-- a fault in the file of a module, at a line
abbrev pub fault_in : List ℕ → ℕ → FaultKind → List ℕ → ProjectFault
fault_in name line fault detail = record { «module» = name; line = line; kind = fault; name = detail }

-- the file of a module is read: it isn't too large, has a module, and that is the one for which it is read
pub record IsRead (name text : List ℕ) (m : Module) : Type 0 where
  pub size : length text ≤ most_bytes
  pub parsed : HasModule text m
  pub named : m.name ≡ name

-- What is wrong with the file of a module: it has too many bytes, or its text has a fault, or its module has another name.
abbrev pub IsWrong : List ℕ → List ℕ → ProjectFault → Type 0
IsWrong name text f =
    ((most_bytes < length text) × (f ≡ fault_in name 0 kind.TooLarge []))
    ⊎ ((length text ≤ most_bytes) × (found : TextFault) × HasFault text found × (f ≡ fault_in name found.line found.kind []))
    ⊎ ((length text ≤ most_bytes) × (m : Module) × HasModule text m × (m.name ≢ name) × (f ≡ fault_in name m.at.line kind.NameMismatch m.name))
