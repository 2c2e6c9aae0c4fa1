-- The grammar of patterns.
use Rattle.std.specs.Prelude.{ℕ, zero, suc, List, [], ◌∷◌, Option, Some, None}
use Rattle.elm_base.specs.declared.token.At.{At}
use Rattle.elm_base.specs.declared.tree.Spot.{Spot}
use Rattle.elm_base.specs.declared.tree.Pattern.{Pattern}
use Rattle.elm_base.specs.declared.tree.Pattern.TheVariants as p
use Rattle.elm_base.specs.Lexemes.{Lexeme}
use Rattle.grammar.specs.declared.terminal.Terminal.TheVariants as k
use Rattle.grammar.specs.Spelling.{int_value, char_value, text_value}
use Rattle.grammar.specs.Rules.{Rule, spelled, name, mark, nothing, ◌⊗◌, ◌▷◌, ◌◁◌, ◌∣◌, ◌<$>◌, optional, many, separated, only, at_most_nine, at, spot}

-- ---- trees

-- what brackets round these patterns make
abbrev pub enclosed : At × List Pattern → Pattern
enclosed (at, []) = p.Unit at
enclosed (at, x ∷ []) = p.Brackets at x
enclosed (at, x ∷ y ∷ ys) = p.Tuple at (x ∷ y ∷ ys)

abbrev pub consed : At × (Pattern × Option Pattern) → Pattern
consed (at, (head, None)) = head
consed (at, (head, Some tail)) = p.Cons at head tail

abbrev pub named : At × (Pattern × Option Spot) → Pattern
named (at, (inner, None)) = inner
named (at, (inner, Some name)) = p.Named at inner name

-- ---- rules

abbrev pub anything : Rule Pattern
anything = (λ x. p.Anything x.0) <$> at (mark k.Underscore)

abbrev pub variable : Rule Pattern
variable = (λ x. p.Variable x.0 x.1) <$> at (name k.Lower)

abbrev pub int : Rule Pattern
int = (λ x. p.Int x.0 x.1) <$> at (spelled k.Int int_value)

abbrev pub char_ : Rule Pattern
char_ = (λ x. p.Char x.0 x.1) <$> at (spelled k.Char char_value)

abbrev pub text : Rule Pattern
text = (λ x. p.Text x.0 x.1) <$> at (spelled k.Text text_value)

-- a constructor without parts
abbrev pub bare : Rule Pattern
bare = (λ x. p.Made x.0 x.1 []) <$> at (name k.Upper)

abbrev pub labels : Rule Pattern
labels = (λ x. p.Fields x.0 x.1) <$> at (mark k.LeftBrace ▷ separated spot ◁ mark k.RightBrace)

abbrev pub literal : Rule Pattern
literal = int ∣ char_ ∣ text

-- over the rule of a pattern without `as`
module _ (cons : Rule Pattern) where
  -- a whole pattern
  abbrev pub whole : Rule Pattern
  whole = named <$> at (cons ⊗ optional (mark k.As ▷ spot))

  abbrev pub list : Rule Pattern
  list = (λ x. p.List x.0 x.1) <$> at (mark k.LeftBracket ▷ (separated whole ∣ nothing []) ◁ mark k.RightBracket)

  -- `()`, one pattern in brackets, or a tuple
  abbrev pub brackets : Rule Pattern
  brackets = enclosed <$> at (mark k.LeftParen ▷ only at_most_nine (separated whole ∣ nothing []) ◁ mark k.RightParen)

  abbrev pub other : Rule Pattern
  other = anything ∣ variable ∣ literal ∣ list ∣ brackets ∣ labels

  -- a pattern that may stand as a part of a constructor
  abbrev pub part : Rule Pattern
  part = bare ∣ other

  abbrev pub made : Rule Pattern
  made = (λ x. p.Made x.0 x.1.0 x.1.1) <$> at (name k.Upper ⊗ many part)

  abbrev pub operand : Rule Pattern
  operand = made ∣ other

  abbrev pub level : Rule Pattern
  level = consed <$> at (operand ⊗ optional (mark k.Cons ▷ cons))

-- a pattern without `as` that needs at most so many such patterns inside each other
unfoldable pub cons_at : ℕ → Rule Pattern
cons_at zero ts x = ⊥
cons_at (suc depth) ts x = level (cons_at depth) ts x

-- all of the tokens stand for the pattern
abbrev pub DerivesPattern : List Lexeme → Pattern → Type 0
DerivesPattern ts x = (depth : ℕ) × whole (cons_at depth) ts x
