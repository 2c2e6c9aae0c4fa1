-- The parser of types, as a function on the tokens.
use Rattle.std.specs.Prelude.{ℕ, zero, suc, List, [], ◌∷◌, Option, Some, None}
use Rattle.elm_base.specs.declared.tree.Spot.{Spot}
use Rattle.elm_base.specs.declared.tree.TypeTree.{TypeTree}
use Rattle.elm_base.specs.declared.tree.TypeTree.TheVariants as t
use Rattle.grammar.specs.declared.terminal.Terminal.{Terminal}
use Rattle.grammar.specs.declared.terminal.Terminal.TheVariants as k
use Rattle.grammar.specs.Rules.{at_most_nine}
use Rattle.grammar.specs.Lists.{separated}
use Rattle.pattern_parser.specs.Types.{enclosed, arrow}
use Rattle.grammar.specs.Reader.{Outcome, Parser, and_then, name, mark, nothing, ◌⊗◌, ◌▷◌, ◌◁◌, ◌<$>◌, choose, optional, many, only, at, spot}

-- what an argument begins with, and so a type
abbrev pub arguments_begin : List Terminal
arguments_begin = k.Upper ∷ k.Lower ∷ k.LeftParen ∷ k.LeftBrace ∷ []

unfoldable pub variable : Parser TypeTree
variable = (λ x. t.Variable x.0 x.1) <$> at (name k.Lower)

unfoldable pub bare : Parser TypeTree
bare = (λ x. t.Named x.0 x.1 []) <$> at (name k.Upper)

-- what is read behind a name, of that name
abbrev pub named_by : {A : Type 0} → Spot → Outcome (Spot → A) → Outcome A
named_by name r = and_then r (λ made us. Some (made name, us))

module _ (whole : Parser TypeTree) where
  unfoldable pub inside_brackets : Parser (List TypeTree)
  inside_brackets = only at_most_nine (choose arguments_begin (separated whole) (nothing []))

  unfoldable pub brackets : Parser TypeTree
  brackets = enclosed <$> at (mark k.LeftParen ▷ inside_brackets ◁ mark k.RightParen)

  unfoldable pub field : Parser (Spot × TypeTree)
  field = spot ⊗ mark k.Colon ▷ whole

  unfoldable pub next_field : Parser (Spot × TypeTree)
  next_field = mark k.Comma ▷ field

  unfoldable pub more_fields : Parser (List (Spot × TypeTree))
  more_fields = many (k.Comma ∷ []) next_field

  unfoldable pub behind_variable : Parser (Spot → Option Spot × List (Spot × TypeTree))
  behind_variable = (λ fields first. (Some first, fields)) <$> mark k.Bar ▷ separated field

  unfoldable pub behind_label : Parser (Spot → Option Spot × List (Spot × TypeTree))
  behind_label = (λ x first. (None, (first, x.0) ∷ x.1)) <$> (mark k.Colon ▷ whole) ⊗ more_fields

  unfoldable pub named_fields : Parser (Option Spot × List (Spot × TypeTree))
  named_fields = (λ x. x.1 x.0) <$> spot ⊗ choose (k.Bar ∷ []) behind_variable behind_label

  unfoldable pub inside_braces : Parser (Option Spot × List (Spot × TypeTree))
  inside_braces = choose (k.Lower ∷ []) named_fields (nothing (None, []))

  unfoldable pub braces : Parser TypeTree
  braces = (λ x. t.Fields x.0 x.1.0 x.1.1) <$> at (mark k.LeftBrace ▷ inside_braces ◁ mark k.RightBrace)

  unfoldable pub other : Parser TypeTree
  other = choose (k.Lower ∷ []) variable (choose (k.LeftParen ∷ []) brackets braces)

  unfoldable pub argument : Parser TypeTree
  argument = choose (k.Upper ∷ []) bare other

  unfoldable pub arguments : Parser (List TypeTree)
  arguments = many arguments_begin argument

  unfoldable pub applied : Parser TypeTree
  applied = (λ x. t.Named x.0 x.1.0 x.1.1) <$> at (name k.Upper ⊗ arguments)

  unfoldable pub operand : Parser TypeTree
  operand = choose (k.Upper ∷ []) applied other

  unfoldable pub target : Parser (Option TypeTree)
  target = optional (k.Arrow ∷ []) (mark k.Arrow ▷ whole)

  unfoldable pub level : Parser TypeTree
  level = arrow <$> at (operand ⊗ target)

unfoldable pub type_at : ℕ → Parser TypeTree
type_at zero ts = None
type_at (suc depth) ts = level (type_at depth) ts
