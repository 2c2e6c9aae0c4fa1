-- What a token is to the grammar, apart from what its spelling stands for.
use Rattle.std.specs.Prelude.{ℕ, nat_eq, Bool, false, ◌||◌, ◌==◌, if◌then◌else◌, List, [], ◌∷◌, codes, Option, Some, None}
use Rattle.std.specs.List.{list_any}
use denote.Enum.Bare.{sameb}
use lib.Pointwise.{pointwise}
use Rattle.elm_base.specs.Lexemes.{Lexeme}
use Rattle.elm_base.specs.declared.token.TokenKind.{TokenKind}
use Rattle.elm_base.specs.declared.token.TokenKind.TheVariants as kind
use Rattle.grammar.specs.contracts.terminal.Terminal.{the_type}
use Rattle.grammar.specs.declared.terminal.Terminal.{Terminal}
use Rattle.grammar.specs.declared.terminal.Terminal.TheVariants as k

-- ---- terminals

-- whether the text is spelled so
abbrev pub is : List ℕ → List ℕ → Bool
is text spelling = pointwise nat_eq text spelling

-- whether the names of modules stand before a name
abbrev pub is_qualified : List ℕ → Bool
is_qualified text = list_any (λ b. b == 46) text

-- what the first entry with this spelling says
abbrev pub listed : List (List ℕ × Terminal) → List ℕ → Terminal
listed [] text = k.Other
listed (entry ∷ entries) text = if is text entry.0 then entry.1 else listed entries text

-- the words of the language
abbrev pub words : List (List ℕ × Terminal)
words =
    (codes "alias", k.Alias) ∷ (codes "as", k.As) ∷ (codes "case", k.Case) ∷ (codes "else", k.Else)
    ∷ (codes "exposing", k.Exposing) ∷ (codes "if", k.If) ∷ (codes "import", k.Import) ∷ (codes "in", k.In)
    ∷ (codes "infix", k.Infix) ∷ (codes "infixl", k.Infixl) ∷ (codes "infixr", k.Infixr) ∷ (codes "let", k.Let)
    ∷ (codes "module", k.Module) ∷ (codes "of", k.Of) ∷ (codes "port", k.Port) ∷ (codes "then", k.Then)
    ∷ (codes "type", k.Type) ∷ (codes "where", k.Where) ∷ []

-- the symbols of the language
abbrev pub symbols : List (List ℕ × Terminal)
symbols =
    (codes "(", k.LeftParen) ∷ (codes ")", k.RightParen) ∷ (codes "[", k.LeftBracket) ∷ (codes "]", k.RightBracket)
    ∷ (codes "{", k.LeftBrace) ∷ (codes "}", k.RightBrace) ∷ (codes ",", k.Comma) ∷ (92 ∷ [], k.Backslash)
    ∷ (codes "_", k.Underscore) ∷ (codes "`", k.Backtick) ∷ (codes "=", k.Equals) ∷ (codes "->", k.Arrow)
    ∷ (codes "|", k.Bar) ∷ (codes ":", k.Colon) ∷ (codes "<-", k.LeftArrow) ∷ (codes "..", k.DotDot) ∷ []

abbrev pub operator : List ℕ → Terminal
operator text = if is text (codes "-") then k.Minus else if is text (codes "::") then k.Cons else k.Operator

-- what a token of this kind and spelling is to the grammar
unfoldable pub terminal_of : TokenKind → List ℕ → Terminal
terminal_of kind.Lower text = if is_qualified text then k.QualifiedLower else k.Lower
terminal_of kind.Upper text = k.Upper
terminal_of kind.Int text = k.Int
terminal_of kind.Char text = k.Char
terminal_of kind.Text text = k.Text
terminal_of kind.Operator text = operator text
terminal_of kind.Symbol text = listed symbols text
terminal_of kind.Word text = listed words text
terminal_of kind.Access text = k.Access
terminal_of kind.FieldFunction text = k.FieldFunction

abbrev pub terminal : Lexeme → Terminal
terminal t = terminal_of t.kind t.text

-- what the first token is, if there is one
abbrev pub first : List Lexeme → Option Terminal
first [] = None
first (t ∷ ts) = Some (terminal t)

-- ---- sets of terminals

-- `==` on terminals
unfoldable pub same_terminal : Terminal → Terminal → Bool
same_terminal = sameb the_type

abbrev pub has : List Terminal → Terminal → Bool
has [] t = false
has (x ∷ xs) t = same_terminal t x || has xs t

-- whether the first token is one of these
abbrev pub starts : List Terminal → List Lexeme → Bool
starts set [] = false
starts set (t ∷ ts) = has set (terminal t)
