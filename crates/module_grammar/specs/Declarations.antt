-- The grammar of what stands at the top level of a module: the header, imports and declarations.
use Rattle.std.specs.Prelude.{ℕ, nat_le, Bool, true, false, not, List, ◌∷◌, ℤ, pos, negsuc}
use Rattle.elm_base.specs.declared.token.At.{At}
use Rattle.elm_base.specs.declared.tree.Spot.{Spot}
use Rattle.elm_base.specs.declared.tree.Side.{Side}
use Rattle.elm_base.specs.declared.tree.Side.TheVariants as side
use Rattle.elm_base.specs.declared.tree.Item.{Item}
use Rattle.elm_base.specs.declared.tree.Item.TheVariants as item_
use Rattle.elm_base.specs.declared.tree.Exposing.{Exposing}
use Rattle.elm_base.specs.declared.tree.Exposing.TheVariants as exposing_
use Rattle.elm_base.specs.declared.tree.Constructors.{Constructors}
use Rattle.elm_base.specs.declared.tree.Constructors.TheVariants as constructors_
use Rattle.elm_base.specs.declared.tree.Constructor.{Constructor}
use Rattle.elm_base.specs.declared.tree.Import.{Import}
use Rattle.elm_base.specs.declared.tree.Declaration.{Declaration}
use Rattle.elm_base.specs.declared.tree.Declaration.TheVariants as d
use Rattle.elm_base.specs.declared.tree.TypeTree.{TypeTree}
use Rattle.elm_base.specs.Lexemes.{Lexeme}
use Rattle.grammar.specs.declared.terminal.Terminal.TheVariants as k
use Rattle.grammar.specs.Terminals.{is_qualified}
use Rattle.grammar.specs.Spelling.{int_value}
use Rattle.grammar.specs.Rules.{Rule, spelled, name, mark, nothing, ◌⊗◌, ◌▷◌, ◌◁◌, ◌∣◌, ◌<$>◌, optional, many, separated, only, at, spot}
use Rattle.pattern_parser.specs.Types.{type_at, argument}
use Rattle.expr_grammar.specs.Expressions.{Below, sign, operator, annotated, defined, tree_at}
use Rattle.module_grammar.specs.declared.header.Header.{Header}

-- ---- names

-- a name that begins with an upper-case letter, without modules before it
abbrev pub upper : Rule (List ℕ)
upper = only (λ text. not (is_qualified text)) (name k.Upper)

abbrev pub upper_spot : Rule Spot
upper_spot = (λ x. record { at = x.0; name = x.1 }) <$> at upper

-- an operator in brackets
abbrev pub bracketed : Rule (List ℕ)
bracketed = mark k.LeftParen ▷ sign ◁ mark k.RightParen

-- ---- what is exposed

-- behind the bracket that follows a type: all of its constructors, or some
abbrev pub shown : Rule Constructors
shown = (λ x. constructors_.All) <$> mark k.DotDot ∣ (λ xs. constructors_.Listed xs) <$> separated upper_spot

abbrev pub constructors_shown : Rule Constructors
constructors_shown = mark k.LeftParen ▷ shown ◁ mark k.RightParen ∣ nothing constructors_.Hidden

abbrev pub value_item : Rule Item
value_item = (λ x. item_.Value x.0 x.1) <$> at (name k.Lower)

abbrev pub operator_item : Rule Item
operator_item = (λ x. item_.Operator x.0 x.1) <$> at bracketed

abbrev pub type_item : Rule Item
type_item = (λ x. item_.Named x.0 x.1.0 x.1.1) <$> at (upper ⊗ constructors_shown)

abbrev pub item : Rule Item
item = value_item ∣ operator_item ∣ type_item

-- behind a bracket: all names, or one item or more
abbrev pub exposed : Rule Exposing
exposed = (λ x. exposing_.All) <$> mark k.DotDot ∣ (λ xs. exposing_.Items xs) <$> separated item

abbrev pub exposing_list : Rule Exposing
exposing_list = mark k.LeftParen ▷ exposed ◁ mark k.RightParen

-- ---- header and imports

-- without a list all is exposed
abbrev pub header : Rule Header
header =
    (λ x. record { at = x.0; name = x.1.0; exposes = x.1.1 })
    <$> at (mark k.Module ▷ name k.Upper ⊗ (exposing_list ∣ nothing exposing_.All) ◁ mark k.Where)

abbrev pub import_ : Rule Import
import_ =
    (λ x. record { at = x.0; «module» = x.1.0; alias = x.1.1.0; exposes = x.1.1.1 })
    <$> at (mark k.Import ▷ name k.Upper ⊗ optional (mark k.As ▷ upper) ⊗ optional (mark k.Exposing ▷ exposing_list))

-- ---- levels

-- 0 to 9
abbrev pub is_level : ℤ → Bool
is_level (pos n) = nat_le n 9
is_level (negsuc n) = false

abbrev pub level_of : ℤ → ℕ
level_of (pos n) = n
level_of (negsuc n) = 0

abbrev pub level : Rule ℕ
level = level_of <$> only is_level (spelled k.Int int_value)

abbrev pub grouping : Rule Side
grouping = (λ x. side.Left) <$> mark k.Infixl ∣ (λ x. side.Right) <$> mark k.Infixr ∣ (λ x. side.Neither) <$> mark k.Infix

abbrev pub levels : Rule Declaration
levels = (λ x. d.Levels x.0 x.1.0 x.1.1.0 x.1.1.1) <$> at (grouping ⊗ level ⊗ operator)

-- ---- declarations, over the rules of expressions and types that stand inside

-- the name that a definition or an annotation begins with
abbrev pub own_name : Rule (List ℕ)
own_name = name k.Lower ∣ bracketed

module _ (inner : Below) where
  abbrev pub type_ : Rule TypeTree
  type_ = type_at inner.depth

  abbrev pub constructor : Rule Constructor
  constructor = (λ x. record { at = x.0; name = x.1.0; arguments = x.1.1 }) <$> at (upper ⊗ many (argument type_))

  -- one or more, with bars between
  abbrev pub constructors : Rule (List Constructor)
  constructors = (λ x. x.0 ∷ x.1) <$> constructor ⊗ many (mark k.Bar ▷ constructor)

  abbrev pub union : Rule (At → Declaration)
  union = (λ x at. d.Union at x.0 x.1.0 x.1.1) <$> upper_spot ⊗ many spot ⊗ mark k.Equals ▷ constructors

  abbrev pub alias : Rule (At → Declaration)
  alias = (λ x at. d.Alias at x.0 x.1.0 x.1.1) <$> mark k.Alias ▷ upper_spot ⊗ many spot ⊗ mark k.Equals ▷ type_

  abbrev pub type_declaration : Rule Declaration
  type_declaration = (λ x. x.1 x.0) <$> at (mark k.Type ▷ (alias ∣ union))

  -- behind the name of a port: its type, or what it carries
  abbrev pub port_annotated : Rule (At → Spot → Declaration)
  port_annotated = (λ written at name. d.PortAnnotation at name written) <$> mark k.Colon ▷ type_

  abbrev pub port_defined : Rule (At → Spot → Declaration)
  port_defined = (λ body at name. d.PortDefinition at name body) <$> mark k.Equals ▷ inner.whole

  abbrev pub port : Rule Declaration
  port = (λ x. x.1.1 x.0 x.1.0) <$> at (mark k.Port ▷ spot ⊗ (port_annotated ∣ port_defined))

  abbrev pub named_declaration : Rule Declaration
  named_declaration = (λ x. x.1.1 x.0 x.1.0) <$> at (own_name ⊗ (annotated inner ∣ defined inner))

  abbrev pub declaration : Rule Declaration
  declaration = type_declaration ∣ port ∣ levels ∣ named_declaration

-- the rules of what may stand inside, to a depth
abbrev pub rules_at : ℕ → Below
rules_at depth = record { depth = depth; whole = tree_at false depth; atom = tree_at true depth }

-- all of the tokens stand for the declaration
abbrev pub DerivesDeclaration : List Lexeme → Declaration → Type 0
DerivesDeclaration ts x = (depth : ℕ) × declaration (rules_at depth) ts x
