-- The parser of patterns, as a function on the tokens.
use Rattle.std.specs.Prelude.{ℕ, zero, suc, List, [], ◌∷◌, Option, None}
use Rattle.elm_base.specs.declared.tree.Spot.{Spot}
use Rattle.elm_base.specs.declared.tree.Pattern.{Pattern}
use Rattle.elm_base.specs.declared.tree.Pattern.TheVariants as p
use Rattle.grammar.specs.declared.terminal.Terminal.{Terminal}
use Rattle.grammar.specs.declared.terminal.Terminal.TheVariants as k
use Rattle.grammar.specs.Rules.{at_most_nine}
use Rattle.grammar.specs.Spelling.{int_value, char_value, text_value}
use Rattle.grammar.specs.Lists.{separated}
use Rattle.pattern_parser.specs.Patterns.{enclosed, consed, named}
use Rattle.grammar.specs.Reader.{Parser, spelled, name, mark, nothing, ◌⊗◌, ◌▷◌, ◌◁◌, ◌<$>◌, choose, optional, many, only, at, spot}

-- what a pattern begins with, as well as a part of one
abbrev pub patterns_begin : List Terminal
patterns_begin = k.Upper ∷ k.Underscore ∷ k.Lower ∷ k.Int ∷ k.Char ∷ k.Text ∷ k.LeftBracket ∷ k.LeftParen ∷ k.LeftBrace ∷ []

abbrev pub literals_begin : List Terminal
literals_begin = k.Int ∷ k.Char ∷ k.Text ∷ []

unfoldable pub anything : Parser Pattern
anything = (λ x. p.Anything x.0) <$> at (mark k.Underscore)

unfoldable pub variable : Parser Pattern
variable = (λ x. p.Variable x.0 x.1) <$> at (name k.Lower)

unfoldable pub int : Parser Pattern
int = (λ x. p.Int x.0 x.1) <$> at (spelled k.Int int_value)

unfoldable pub char_ : Parser Pattern
char_ = (λ x. p.Char x.0 x.1) <$> at (spelled k.Char char_value)

unfoldable pub text : Parser Pattern
text = (λ x. p.Text x.0 x.1) <$> at (spelled k.Text text_value)

unfoldable pub bare : Parser Pattern
bare = (λ x. p.Made x.0 x.1 []) <$> at (name k.Upper)

unfoldable pub labels : Parser Pattern
labels = (λ x. p.Fields x.0 x.1) <$> at (mark k.LeftBrace ▷ separated spot ◁ mark k.RightBrace)

-- the name behind `as`, if one stands there
unfoldable pub alias : Parser (Option Spot)
alias = optional (k.As ∷ []) (mark k.As ▷ spot)

unfoldable pub literal : Parser Pattern
literal = choose (k.Int ∷ []) int (choose (k.Char ∷ []) char_ text)

module _ (cons : Parser Pattern) where
  unfoldable pub whole : Parser Pattern
  whole = named <$> at (cons ⊗ alias)

  unfoldable pub any_patterns : Parser (List Pattern)
  any_patterns = choose patterns_begin (separated whole) (nothing [])

  unfoldable pub list : Parser Pattern
  list = (λ x. p.List x.0 x.1) <$> at (mark k.LeftBracket ▷ any_patterns ◁ mark k.RightBracket)

  unfoldable pub inside_brackets : Parser (List Pattern)
  inside_brackets = only at_most_nine any_patterns

  unfoldable pub brackets : Parser Pattern
  brackets = enclosed <$> at (mark k.LeftParen ▷ inside_brackets ◁ mark k.RightParen)

  unfoldable pub other : Parser Pattern
  other =
      choose (k.Underscore ∷ []) anything (choose (k.Lower ∷ []) variable (choose literals_begin literal
      (choose (k.LeftBracket ∷ []) list (choose (k.LeftParen ∷ []) brackets labels))))

  unfoldable pub part : Parser Pattern
  part = choose (k.Upper ∷ []) bare other

  unfoldable pub parts : Parser (List Pattern)
  parts = many patterns_begin part

  unfoldable pub made : Parser Pattern
  made = (λ x. p.Made x.0 x.1.0 x.1.1) <$> at (name k.Upper ⊗ parts)

  unfoldable pub operand : Parser Pattern
  operand = choose (k.Upper ∷ []) made other

  unfoldable pub tail : Parser (Option Pattern)
  tail = optional (k.Cons ∷ []) (mark k.Cons ▷ cons)

  unfoldable pub level : Parser Pattern
  level = consed <$> at (operand ⊗ tail)

unfoldable pub cons_at : ℕ → Parser Pattern
cons_at zero ts = None
cons_at (suc depth) ts = level (cons_at depth) ts
