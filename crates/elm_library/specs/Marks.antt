-- The lines that only the library has, in front of a module's header: `native NAME : TYPE`, `device NAME : TYPE` and
-- `opaque NAME PARAMETERS`. A line begins in column 1.
use Rattle.std.specs.Prelude.{◌≡◌, ◌+◌, ◌≤◌, ℕ, min, nat_eq, not, if◌then◌else◌, List, [], ◌∷◌, map, codes, bytes_eq, Option, Some, None}
use Rattle.std.specs.List.{prefix_len}
use Rattle.elm_base.specs.Lexemes.{Lexeme}
use Rattle.elm_base.specs.declared.token.At.{At}
use Rattle.elm_base.specs.declared.tree.TypeTree.{TypeTree}
use Rattle.elm_base.specs.declared.tree.Declaration.{Declaration}
use Rattle.elm_base.specs.declared.tree.Declaration.TheVariants as d
use Rattle.pattern_parser.specs.Types.{DerivesType}
use Rattle.tree_nesting.specs.Nesting.{type_nesting, max_nesting}
use Rattle.elm_library.specs.declared.mark.Mark.{Mark}
use Rattle.elm_library.specs.declared.mark.Mark.TheVariants.{Native, Device, Opaque}

-- the mark with which a line begins, by the spelling of its first token
abbrev pub mark_of : Lexeme → Option Mark
mark_of l =
    if bytes_eq l.text (codes "native") then Some Native
    else if bytes_eq l.text (codes "device") then Some Device
    else if bytes_eq l.text (codes "opaque") then Some Opaque
    else None

-- the number of the next native behind a line of this mark; a number stays at the end of 32 bits
abbrev pub number_behind : Mark → ℕ → ℕ
number_behind Native number = min (number + 1) 4294967295
number_behind Device number = number
number_behind Opaque number = number

-- how many tokens are in front of the next one in column 1
abbrev pub line_len : List Lexeme → ℕ
line_len ts = prefix_len (λ t. not (nat_eq t.at.column 1)) ts

-- a name and the tokens of its type, with a colon between
abbrev pub typed : List Lexeme → Option (Lexeme × List Lexeme)
typed (name ∷ colon ∷ written) = if bytes_eq colon.text (codes ":") then Some (name, written) else None
typed _ = None

abbrev pub IsTyped : Option (Lexeme × List Lexeme) → List ℕ → TypeTree → Type 0
IsTyped None name tree = ⊥
IsTyped (Some (spelled, written)) name tree = (name ≡ spelled.text) × DerivesType written tree × (type_nesting tree ≤ max_nesting)

-- what the line of a mark at a place declares, as the native of this number where it is one
abbrev pub Declares : Mark → At → ℕ → List Lexeme → Declaration → Type 0
Declares Native at number line declared = (name : List ℕ) × (tree : TypeTree) × IsTyped (typed line) name tree × (declared ≡ d.Native at name tree number)
Declares Device at number line declared = (name : List ℕ) × (tree : TypeTree) × IsTyped (typed line) name tree × (declared ≡ d.Device at name tree)
Declares Opaque at number [] declared = ⊥
Declares Opaque at number (name ∷ parameters) declared = declared ≡ d.Opaque at name.text (map (λ l. l.text) parameters)
