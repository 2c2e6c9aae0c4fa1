-- For private contracts: what calls on the way to a module's lines answer.
use Rattle.std.specs.Prelude.{◌≡◌, ◌++◌, ℕ, List, [], ◌∷◌, Option, Some, None, Result, Ok, Err}
use Rattle.elm_base.specs.Lexemes.{Lexeme, lexeme}
use Rattle.elm_base.specs.declared.token.At.{At}
use Rattle.elm_base.specs.declared.tree.TypeTree.{TypeTree}
use Rattle.elm_base.specs.declared.tree.Declaration.{Declaration}
use Rattle.elm_base.specs.declared.memory.Halt.{Halt}
use Rattle.elm_base.specs.declared.memory.Halt.TheVariants as halt
use Rattle.layout_lexer.specs.declared.place.TextFault.{TextFault}
use Rattle.elm_library.specs.declared.mark.Mark.{Mark}
use Rattle.elm_library.specs.declared.line.Typed.{Typed}
use Rattle.elm_library.specs.declared.line.Named.{Named}
use Rattle.elm_library.specs.Marks.{IsTyped, Declares}
use mathlib.Core.List.{map}

-- a name and the tokens of its type, as the definition sees them
abbrev pub typed_as : Option Typed → Option (Lexeme × List Lexeme)
typed_as None = None
typed_as (Some parts) = Some (lexeme parts.name.now, map lexeme parts.written.now)

abbrev pub GivesType : Option (Lexeme × List Lexeme) → TextFault → Result Named (Halt TextFault) → Type 0
GivesType parts fault (Ok named) = IsTyped parts named.name named.written
GivesType parts fault (Err (halt.Because f)) = (f ≡ fault) × ((name : List ℕ) → (tree : TypeTree) → IsTyped parts name tree → ⊥)
GivesType parts fault (Err halt.NoMemory) = Unit {0}

abbrev pub PushesLine : Mark → At → ℕ → List Lexeme → TextFault → List Declaration → List Declaration → Result (Unit {0}) (Halt TextFault) → Type 0
PushesLine mark at number line fault old new (Ok done) = (d : Declaration) × Declares mark at number line d × (new ≡ old ++ d ∷ [])
PushesLine mark at number line fault old new (Err (halt.Because f)) = (f ≡ fault) × ((d : Declaration) → Declares mark at number line d → ⊥)
PushesLine mark at number line fault old new (Err halt.NoMemory) = Unit {0}
