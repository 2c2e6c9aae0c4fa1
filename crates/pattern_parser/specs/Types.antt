-- The grammar of types.
use Rattle.std.specs.Prelude.{ℕ, zero, suc, List, [], ◌∷◌, Option, Some, None}
use Rattle.elm_base.specs.declared.token.At.{At}
use Rattle.elm_base.specs.declared.tree.Spot.{Spot}
use Rattle.elm_base.specs.declared.tree.TypeTree.{TypeTree}
use Rattle.elm_base.specs.declared.tree.TypeTree.TheVariants as t
use Rattle.elm_base.specs.Lexemes.{Lexeme}
use Rattle.grammar.specs.declared.terminal.Terminal.TheVariants as k
use Rattle.grammar.specs.Rules.{Rule, name, mark, nothing, ◌⊗◌, ◌▷◌, ◌◁◌, ◌∣◌, ◌<$>◌, optional, many, separated, only, at_most_nine, at, spot}

-- ---- trees

-- what brackets round these types make
abbrev pub enclosed : At × List TypeTree → TypeTree
enclosed (at, []) = t.Unit at
enclosed (at, x ∷ []) = t.Brackets at x
enclosed (at, x ∷ y ∷ ys) = t.Tuple at (x ∷ y ∷ ys)

abbrev pub arrow : At × (TypeTree × Option TypeTree) → TypeTree
arrow (at, (from, None)) = from
arrow (at, (from, Some to)) = t.Arrow at from to

-- ---- rules, over the rule of a whole type

abbrev pub variable : Rule TypeTree
variable = (λ x. t.Variable x.0 x.1) <$> at (name k.Lower)

abbrev pub bare : Rule TypeTree
bare = (λ x. t.Named x.0 x.1 []) <$> at (name k.Upper)

module _ (whole : Rule TypeTree) where
  -- `()`, one type in brackets, or a tuple
  abbrev pub brackets : Rule TypeTree
  brackets = enclosed <$> at (mark k.LeftParen ▷ only at_most_nine (separated whole ∣ nothing []) ◁ mark k.RightParen)

  abbrev pub field : Rule (Spot × TypeTree)
  field = spot ⊗ mark k.Colon ▷ whole

  -- Behind the first name in braces: a bar and the fields, or the type of that name's field and more fields.
  abbrev pub behind_variable : Rule (Spot → Option Spot × List (Spot × TypeTree))
  behind_variable = (λ fields first. (Some first, fields)) <$> mark k.Bar ▷ separated field

  abbrev pub behind_label : Rule (Spot → Option Spot × List (Spot × TypeTree))
  behind_label = (λ x first. (None, (first, x.0) ∷ x.1)) <$> (mark k.Colon ▷ whole) ⊗ many (mark k.Comma ▷ field)

  abbrev pub inside_braces : Rule (Option Spot × List (Spot × TypeTree))
  inside_braces = (λ x. x.1 x.0) <$> spot ⊗ (behind_variable ∣ behind_label) ∣ nothing (None, [])

  abbrev pub braces : Rule TypeTree
  braces = (λ x. t.Fields x.0 x.1.0 x.1.1) <$> at (mark k.LeftBrace ▷ inside_braces ◁ mark k.RightBrace)

  abbrev pub other : Rule TypeTree
  other = variable ∣ brackets ∣ braces

  -- a type that may stand as an argument
  abbrev pub argument : Rule TypeTree
  argument = bare ∣ other

  abbrev pub applied : Rule TypeTree
  applied = (λ x. t.Named x.0 x.1.0 x.1.1) <$> at (name k.Upper ⊗ many argument)

  abbrev pub operand : Rule TypeTree
  operand = applied ∣ other

  abbrev pub level : Rule TypeTree
  level = arrow <$> at (operand ⊗ optional (mark k.Arrow ▷ whole))

-- a type that needs at most so many whole types inside each other
unfoldable pub type_at : ℕ → Rule TypeTree
type_at zero ts x = ⊥
type_at (suc depth) ts x = level (type_at depth) ts x

-- all of the tokens stand for the type
abbrev pub DerivesType : List Lexeme → TypeTree → Type 0
DerivesType ts x = (depth : ℕ) × type_at depth ts x
