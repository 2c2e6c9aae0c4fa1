-- What a module's tokens stand for, chunk by chunk, and which chunk is its first fault.
use Rattle.std.specs.Prelude.{◌≡◌, ◌≤◌, ℕ, nat_eq, nat_le, Bool, true, false, not, ◌&&◌, if◌then◌else◌, ◌⊎◌, List, [], ◌∷◌, ◌++◌, length, map, codes, Option, Some, None}
use lib.Pointwise.{pointwise}
use Rattle.elm_base.specs.Lexemes.{Lexeme}
use Rattle.elm_base.specs.declared.fault.FaultKind.{FaultKind}
use Rattle.elm_base.specs.declared.fault.FaultKind.TheVariants as kind
use Rattle.elm_base.specs.declared.tree.Exposing.TheVariants as exposing_
use Rattle.elm_base.specs.declared.tree.Import.{Import}
use Rattle.elm_base.specs.declared.tree.Module.{Module}
use Rattle.elm_base.specs.declared.tree.Declaration.{Declaration, out-Declaration}
use Rattle.elm_base.specs.declared.tree.Declaration.TheOpen as open_
use Rattle.layout_lexer.specs.declared.place.TextFault.{TextFault}
use Rattle.grammar.specs.declared.terminal.Terminal.{Terminal}
use Rattle.grammar.specs.declared.terminal.Terminal.TheVariants as k
use Rattle.grammar.specs.Terminals.{starts}
use Rattle.grammar.specs.Rules.{Rule}
use Rattle.grammar.specs.Reader.{stands_in}
use Rattle.tree_nesting.specs.Nesting.{max_nesting}
use Rattle.tree_nesting.specs.ExpressionNesting.{declaration_nesting}
use Rattle.block_sizes.specs.BlockSizes.{most_definitions, defined_at, large_declaration, present}
use Rattle.module_grammar.specs.declared.header.Header.{Header}
use Rattle.module_grammar.specs.Chunks.{chunks}
use Rattle.module_grammar.specs.Declarations.{DerivesDeclaration, header, import_}
use Rattle.module_grammar.specs.DeclarationReader.{own_name}

abbrev pub Chunk : Type 0
Chunk = List Lexeme

-- ---- one chunk

-- the chunk begins in column 1, and its tokens stand for the value
abbrev pub Line : {A : Type 0} → Rule A → Rule A
Line P chunk x = (stands_in 1 chunk ≡ true) × P chunk x

abbrev pub line_of : Chunk → ℕ
line_of [] = 0
line_of (t ∷ ts) = t.at.line

abbrev pub fault : Chunk → FaultKind → TextFault
fault chunk kind = record { line = line_of chunk; kind = kind }

-- what headers and imports begin with
abbrev pub heads : List Terminal
heads = k.Module ∷ k.Import ∷ []

-- ---- what must stand beside a declaration

abbrev pub is_named : List ℕ → Option (List ℕ × List Lexeme) → Bool
is_named name None = false
is_named name (Some found) = pointwise nat_eq name found.0 && not (starts (k.Colon ∷ []) found.1)

-- whether the first of the chunks begins with the name, and is no annotation
abbrev pub begins_definition : List ℕ → List Chunk → Bool
begins_definition name [] = false
begins_definition name (c ∷ cs) = is_named name (own_name c)

abbrev pub port_layer : {A B C : Type 0} → List ℕ → open_.Declaration-F A B C → Bool
port_layer name (open_.PortAnnotation at spot written) = pointwise nat_eq name spot.name
port_layer name _ = false

-- whether the declaration gives a port of this name its type
abbrev pub is_port : List ℕ → Declaration → Bool
is_port name x = port_layer name (out-Declaration x)

-- whether the last of the declarations gives a port of this name its type
abbrev pub ends_in_port : List ℕ → List Declaration → Bool
ends_in_port name [] = false
ends_in_port name (x ∷ []) = is_port name x
ends_in_port name (x ∷ y ∷ ys) = ends_in_port name (y ∷ ys)

abbrev pub stands_layer : {A B C : Type 0} → List Declaration → List Chunk → open_.Declaration-F A B C → Bool
stands_layer before behind (open_.Annotation at name written) = begins_definition name behind
stands_layer before behind (open_.PortDefinition at name body) = ends_in_port name.name before
stands_layer before behind _ = true

-- Whether the declaration stands where it may: an annotation directly before its definition, what a port carries directly behind the
-- port's type.
abbrev pub stands : List Declaration → List Chunk → Declaration → Bool
stands before behind x = stands_layer before behind (out-Declaration x)

-- ---- how many definitions there are

abbrev pub definitions : List Declaration → ℕ
definitions xs = length (present (map defined_at xs))

abbrev pub is_there : Option ℕ → Bool
is_there (Some x) = true
is_there None = false

-- the line at which a declaration is one definition too many behind those before it, or a `let` in it has one too many
abbrev pub too_large : List Declaration → Declaration → Option ℕ
too_large before x = if is_there (defined_at x) && nat_le most_definitions (definitions before) then defined_at x else large_declaration x

-- ---- a module

-- each chunk stands for one declaration, in a place where it may
abbrev pub Declares : List Declaration → List Chunk → List Declaration → Type 0
Declares before [] [] = Unit {0}
Declares before (c ∷ cs) (x ∷ xs) = Line DerivesDeclaration c x × (stands before cs x ≡ true) × Declares (before ++ x ∷ []) cs xs
Declares before _ _ = ⊥

-- imports, and then declarations
abbrev pub Continues : List Chunk → List Import → List Declaration → Type 0
Continues cs [] xs = Declares [] cs xs
Continues [] (i ∷ is) xs = ⊥
Continues (c ∷ cs) (i ∷ is) xs = Line import_ c i × Continues cs is xs

-- a module without header is Main, and exposes all
abbrev pub no_header : Header
no_header = record { at = record { line = 1; column = 1 }; name = codes "Main"; exposes = exposing_.All }

abbrev pub made : Header → List Import → List Declaration → Module
made h is xs = record { at = h.at; name = h.name; exposes = h.exposes; imports = is; declarations = xs }

-- a header or none, and then imports and declarations
abbrev pub Stands : List Chunk → Module → Type 0
Stands cs m =
    (h : Header) × (is : List Import) × (xs : List Declaration) × (m ≡ made h is xs)
    × (((h ≡ no_header) × Continues cs is xs) ⊎ ((c : Chunk) × (rest : List Chunk) × (cs ≡ c ∷ rest) × Line header c h × Continues rest is xs))

-- all of the tokens stand for the module
abbrev pub DerivesModule : List Lexeme → Module → Type 0
DerivesModule ts m = Stands (chunks ts) m

-- ---- its limits

-- each nests at most so deep
abbrev pub Nest : List Declaration → Type 0
Nest [] = Unit {0}
Nest (x ∷ xs) = (declaration_nesting x ≤ max_nesting) × Nest xs

abbrev pub NoLarge : List Declaration → Type 0
NoLarge [] = Unit {0}
NoLarge (x ∷ xs) = (large_declaration x ≡ None) × NoLarge xs

-- neither the module nor a block of a `let` has too many definitions
abbrev pub Fit : List Declaration → Type 0
Fit xs = (definitions xs ≤ most_definitions) × NoLarge xs

-- ---- the first fault

-- the chunk is no such line
abbrev pub NoLine : {A : Type 0} → Rule A → Chunk → Type 0
NoLine {A} P c = (x : A) → Line P c x → ⊥

-- The chunk is wrong behind these declarations and before those chunks: it begins as a header or an import, or it stands for no
-- declaration that nests within the limit, or for one that mayn't stand there, or for one that is too large.
abbrev pub Wrong : List Declaration → Chunk → List Chunk → TextFault → Type 0
Wrong before c behind f =
    ((starts heads c ≡ true) × (f ≡ fault c kind.BadHeader))
    ⊎ ((starts heads c ≡ false) × ((x : Declaration) → Line DerivesDeclaration c x → declaration_nesting x ≤ max_nesting → ⊥) × (f ≡ fault c kind.BadDeclaration))
    ⊎ ((x : Declaration) × Line DerivesDeclaration c x × (declaration_nesting x ≤ max_nesting) × (
    ((stands before behind x ≡ false) × (f ≡ fault c kind.BadDeclaration))
    ⊎ ((stands before behind x ≡ true) × (line : ℕ) × (too_large before x ≡ Some line) × (f ≡ record { line = line; kind = kind.TooLarge }))))

-- the chunk stands for a declaration that is right there
abbrev pub Right : List Declaration → Chunk → List Chunk → Declaration → Type 0
Right before c behind x =
    Line DerivesDeclaration c x × (declaration_nesting x ≤ max_nesting) × (stands before behind x ≡ true) × (too_large before x ≡ None)

-- the first chunk is wrong, or it is right and one behind it is the first that is wrong
abbrev pub DeclaresFault : List Declaration → List Chunk → TextFault → Type 0
DeclaresFault before [] f = ⊥
DeclaresFault before (c ∷ cs) f = Wrong before c cs f ⊎ ((x : Declaration) × Right before c cs x × DeclaresFault (before ++ x ∷ []) cs f)

-- an import that is none, or one behind right imports, or where these end the first declaration that is wrong
abbrev pub ContinuesFault : List Chunk → TextFault → Type 0
ContinuesFault [] f = ⊥
ContinuesFault (c ∷ cs) f =
    ((starts (k.Import ∷ []) c ≡ true) × ((NoLine import_ c × (f ≡ fault c kind.BadHeader)) ⊎ ((i : Import) × Line import_ c i × ContinuesFault cs f)))
    ⊎ ((starts (k.Import ∷ []) c ≡ false) × DeclaresFault [] (c ∷ cs) f)

abbrev pub StandsFault : List Chunk → TextFault → Type 0
StandsFault [] f = ⊥
StandsFault (c ∷ cs) f =
    ((starts (k.Module ∷ []) c ≡ true) × ((NoLine header c × (f ≡ fault c kind.BadHeader)) ⊎ ((h : Header) × Line header c h × ContinuesFault cs f)))
    ⊎ ((starts (k.Module ∷ []) c ≡ false) × ContinuesFault (c ∷ cs) f)

-- the fault is that of the first chunk that is wrong
abbrev pub FirstFault : List Lexeme → TextFault → Type 0
FirstFault ts f = StandsFault (chunks ts) f
