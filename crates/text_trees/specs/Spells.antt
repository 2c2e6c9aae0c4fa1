-- What a text spells.
use Rattle.std.specs.Prelude.{ℕ, List}
use Rattle.elm_base.specs.Lexemes.{Lexeme}
use Rattle.elm_base.specs.declared.token.At.{At}
use Rattle.elm_base.specs.declared.tree.TypeTree.{TypeTree}
use Rattle.elm_base.specs.declared.tree.Pattern.{Pattern}
use Rattle.elm_base.specs.declared.tree.Expr.{Expr}
use Rattle.layout_lexer.specs.Tokens.{Tokens}
use Rattle.pattern_parser.specs.Types.{DerivesType}
use Rattle.pattern_parser.specs.Patterns.{DerivesPattern}
use Rattle.expr_grammar.specs.Expressions.{DerivesExpr}

-- the text is cut into tokens, and the tree derives from them
abbrev pub Spells : {A : Type 0} → (List Lexeme → A → Type 0) → List ℕ → A → Type 0
Spells Derives text tree = (tokens : List Lexeme) × Tokens text tokens × Derives tokens tree

abbrev pub SpellsType : List ℕ → TypeTree → Type 0
SpellsType = Spells DerivesType

abbrev pub SpellsPattern : List ℕ → Pattern → Type 0
SpellsPattern = Spells DerivesPattern

abbrev pub SpellsExpr : List ℕ → Expr → Type 0
SpellsExpr = Spells DerivesExpr

-- a place of the first line, for worked texts
abbrev pub first_line : ℕ → At
first_line column = record { line = 1; column = column }
