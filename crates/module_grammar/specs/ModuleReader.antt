-- How a module is read, as a function on its chunks.
use Rattle.std.specs.Prelude.{◌≡◌, ℕ, nat_le, if◌then◌else◌, List, [], ◌∷◌, ◌++◌, Option, Some, None, Result, Ok, Err}
use Rattle.elm_base.specs.Lexemes.{Lexeme}
use Rattle.elm_base.specs.declared.memory.Halt.{Halt}
use Rattle.elm_base.specs.declared.memory.Halt.TheVariants as halt
use Rattle.elm_base.specs.declared.fault.FaultKind.{FaultKind}
use Rattle.elm_base.specs.declared.fault.FaultKind.TheVariants as kind
use Rattle.elm_base.specs.declared.tree.Import.{Import}
use Rattle.elm_base.specs.declared.tree.Module.{Module}
use Rattle.elm_base.specs.declared.tree.Declaration.{Declaration}
use Rattle.layout_lexer.specs.declared.place.TextFault.{TextFault}
use Rattle.grammar.specs.declared.terminal.Terminal.TheVariants as k
use Rattle.grammar.specs.Terminals.{starts}
use Rattle.grammar.specs.Reader.{Parser, Outcome, only}
use Rattle.tree_nesting.specs.Nesting.{max_nesting}
use Rattle.tree_nesting.specs.ExpressionNesting.{declaration_nesting}
use Rattle.expr_grammar.specs.ExprReader.{below}
use Rattle.module_grammar.specs.declared.header.Header.{Header}
use Rattle.module_grammar.specs.Chunks.{chunks}
use Rattle.module_grammar.specs.DeclarationReader.{header, import_, declaration, line}
use Rattle.module_grammar.specs.Modules.{Chunk, line_of, fault, heads, stands, too_large, no_header, made}

-- what is read, or the fault
abbrev pub Said : Type 0 → Type 0
Said A = Result A TextFault

abbrev pub and_said : {A B : Type 0} → Said A → (A → Said B) → Said B
and_said (Ok x) f = f x
and_said (Err e) f = Err e

-- a fault of this kind at the chunk, where nothing was read of it
abbrev pub or_fault : {A : Type 0} → Chunk → FaultKind → Outcome A → Said A
or_fault c kind None = Err (fault c kind)
or_fault c kind (Some found) = Ok found.0

-- one that nests within the limit
unfoldable pub declaration_line : ℕ → Parser Declaration
declaration_line depth = only (λ x. nat_le (declaration_nesting x) max_nesting) (line (declaration (below depth)))

abbrev pub sized : Declaration → Option ℕ → Said Declaration
sized x None = Ok x
sized x (Some line) = Err (record { line = line; kind = kind.TooLarge })

-- of a declaration at the line
abbrev pub judged : List Declaration → ℕ → List Chunk → Declaration → Said Declaration
judged before line behind x =
    if stands before behind x then sized x (too_large before x) else Err (record { line = line; kind = kind.BadDeclaration })

module _ (depth : ℕ) where
  -- a chunk behind these declarations and before those chunks
  abbrev pub declared : List Declaration → Chunk → List Chunk → Said Declaration
  declared before c behind =
      if starts heads c then Err (fault c kind.BadHeader)
      else and_said (or_fault c kind.BadDeclaration (declaration_line depth c)) (λ x. judged before (line_of c) behind x)

  abbrev pub declarations : List Declaration → List Chunk → Said (List Declaration)
  declarations before [] = Ok []
  declarations before (c ∷ cs) =
      and_said (declared before c cs) (λ x. and_said (declarations (before ++ x ∷ []) cs) (λ xs. Ok (x ∷ xs)))

  -- the imports that stand next, and what is left
  abbrev pub imports : List Chunk → Said (List Import × List Chunk)
  imports [] = Ok ([], [])
  imports (c ∷ cs) =
      if starts (k.Import ∷ []) c
      then and_said (or_fault c kind.BadHeader (line import_ c)) (λ i. and_said (imports cs) (λ found. Ok (i ∷ found.0, found.1)))
      else Ok ([], c ∷ cs)

  -- the header, if one stands there, and what is left
  abbrev pub headed : List Chunk → Said (Header × List Chunk)
  headed [] = Ok (no_header, [])
  headed (c ∷ cs) =
      if starts (k.Module ∷ []) c then and_said (or_fault c kind.BadHeader (line header c)) (λ h. Ok (h, cs)) else Ok (no_header, c ∷ cs)

  abbrev pub read : List Chunk → Said Module
  read cs =
      and_said (headed cs) (λ h. and_said (imports h.1) (λ i. and_said (declarations [] i.1) (λ xs. Ok (made h.0 i.0 xs))))

-- ---- what a function that reads chunks ensures: what is said, unless memory fails

abbrev pub Says : {A : Type 0} → Said A → Result A (Halt TextFault) → Type 0
Says said (Ok x) = said ≡ Ok x
Says said (Err (halt.Because f)) = said ≡ Err f
Says said (Err halt.NoMemory) = Unit {0}

-- the same of one that leaves tokens
abbrev pub SaysOf : {A : Type 0} → Said (A × List Chunk) → Result A (Halt TextFault) → List Lexeme → Type 0
SaysOf said (Ok x) new = said ≡ Ok (x, chunks new)
SaysOf said (Err (halt.Because f)) new = said ≡ Err f
SaysOf said (Err halt.NoMemory) new = Unit {0}
