-- The projects that are served, and the faults of all others.
use Rattle.std.specs.Prelude.{◌≡◌, ◌⊎◌, ◌==◌, ◌&&◌, ◌||◌, ℕ, Bool, true, false, if◌then◌else◌, not, nat_le, nat_lt, List, [], ◌∷◌, ◌++◌, length, codes, Option, Some, None, Result, Ok, Err, slice_get}
use Rattle.std.specs.Bool.{MatchBool}
use Rattle.std.specs.List.{list_all}
use Rattle.std.specs.Str.{bytes_eq}
use Rattle.elm_base.specs.declared.token.TokenKind.{TokenKind}
use Rattle.elm_base.specs.declared.token.TokenKind.TheVariants as token
use Rattle.elm_base.specs.declared.fault.FaultKind.{FaultKind}
use Rattle.elm_base.specs.declared.fault.FaultKind.TheVariants as kind
use Rattle.elm_base.specs.declared.fault.ProjectFault.{ProjectFault}
use Rattle.elm_base.specs.Lexemes.{Lexeme}
use Rattle.layout_lexer.specs.declared.place.TextFault.{TextFault}
use Rattle.layout_lexer.specs.Tokens.{Tokens, FirstFault}
use Rattle.reactor_outside.specs.Shelf.{Files}
use Rattle.elm_base.specs.Letters.{is_letter, is_digit}
use Rattle.reactor_meaning.specs.Program.{Program}

-- the file of a project's first module
abbrev pub main_file : List ℕ → List ℕ
main_file project = project ++ codes "/Main.elm"

-- a fault of the module Main at a line
abbrev pub main_fault : ℕ → FaultKind → List ℕ → ProjectFault
main_fault line fault name = record { «module» = codes "Main"; line = line; kind = fault; name = name }

-- The spellings of the tokens of a project that is served: an import, a port of integers, and the definition that
-- shows it.
abbrev pub form : List ℕ → List (List ℕ)
form port =
    codes "import" ∷ codes "Graphics.Element" ∷ codes "exposing" ∷ codes "(" ∷ codes ".." ∷ codes ")"
    ∷ codes "port" ∷ port ∷ codes ":" ∷ codes "Signal" ∷ codes "Int"
    ∷ codes "main" ∷ codes "=" ∷ codes "Signal.map" ∷ codes "show" ∷ port ∷ []

-- the tokens are spelled so
abbrev pub are_spelled : List Lexeme → List (List ℕ) → Bool
are_spelled [] [] = true
are_spelled [] (text ∷ texts) = false
are_spelled (t ∷ ts) [] = false
are_spelled (t ∷ ts) (text ∷ texts) = bytes_eq t.text text && are_spelled ts texts

-- the words with which a declaration of the form begins
abbrev pub begins_line : List ℕ → Bool
begins_line text = bytes_eq text (codes "import") || bytes_eq text (codes "port") || bytes_eq text (codes "main")

-- both tests pass, or neither does
abbrev pub agree : Bool → Bool → Bool
agree true other = other
agree false other = not other

-- a token stands in the first column exactly where it begins a declaration
abbrev pub stands_rightly : Lexeme → Bool
stands_rightly t = agree (t.at.column == 1) (begins_line t.text)

abbrev pub is_lower : TokenKind → Bool
is_lower token.Lower = true
is_lower other = false

-- The name of a port: a token that is a lower-case name of letters and digits alone, of at most 255 bytes, and neither
-- `main` nor `show`.
abbrev pub is_port : Lexeme → Bool
is_port t =
    is_lower t.kind && nat_le (length t.text) 255 && list_all (λ byte. is_letter byte || is_digit byte) t.text
    && not (bytes_eq t.text (codes "main") || bytes_eq t.text (codes "show"))

-- the tokens have the form with this token as the port's name
abbrev pub have_form : List Lexeme → Lexeme → Bool
have_form ts port = is_port port && are_spelled ts (form port.text) && list_all stands_rightly ts

-- the port of tokens that may have the form, whose eighth token this is
abbrev pub port_among : List Lexeme → Option Lexeme → Option (List ℕ)
port_among ts None = None
port_among ts (Some port) = if have_form ts port then Some port.text else None

-- the port that these tokens declare and show, if they have the form
abbrev pub port_of : List Lexeme → Option (List ℕ)
port_of ts = port_among ts (slice_get ts 7)

-- a program, or the fault that the text has none that is served
abbrev pub served : Option (List ℕ) → Result Program ProjectFault
served None = Err (main_fault 0 kind.Unsupported [])
served (Some port) = Ok (record { port = port })

-- What the text of Main gives: the fault of its first faulty token, or the program of its tokens.
abbrev pub TextGives : List ℕ → Result Program ProjectFault → Type 0
TextGives text given =
    ((list : List Lexeme) × Tokens text list × (given ≡ served (port_of list)))
    ⊎ ((fault : TextFault) × FirstFault text fault × (given ≡ Err (main_fault fault.line fault.kind [])))

-- what the file of Main gives: it must be there, and have at most 262,144 bytes
abbrev pub FileGives : Option (List ℕ) → Result Program ProjectFault → Type 0
FileGives None given = given ≡ Err (main_fault 0 kind.MissingModule (codes "Main"))
FileGives (Some text) given = MatchBool (nat_lt 262144 (length text)) (given ≡ Err (main_fault 0 kind.TooLarge [])) (TextGives text given)

-- A project of these files gives this: a program, or its fault.
abbrev pub Compiles : Files → List ℕ → Result Program ProjectFault → Type 0
Compiles files project given = FileGives (files (main_file project)) given
