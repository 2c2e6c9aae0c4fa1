-- The parsers of headers, imports and declarations, as functions on the tokens.
use Rattle.std.specs.Prelude.{ℕ, not, if◌then◌else◌, List, [], ◌∷◌, Option, Some, None}
use Rattle.elm_base.specs.declared.token.At.{At}
use Rattle.elm_base.specs.declared.tree.Spot.{Spot}
use Rattle.elm_base.specs.declared.tree.Side.{Side}
use Rattle.elm_base.specs.declared.tree.Side.TheVariants as side
use Rattle.elm_base.specs.declared.tree.Item.{Item}
use Rattle.elm_base.specs.declared.tree.Item.TheVariants as item_
use Rattle.elm_base.specs.declared.tree.Exposing.{Exposing}
use Rattle.elm_base.specs.declared.tree.Exposing.TheVariants as exposing_
use Rattle.elm_base.specs.declared.tree.Constructors.{Constructors}
use Rattle.elm_base.specs.declared.tree.Constructors.TheVariants as constructors_
use Rattle.elm_base.specs.declared.tree.Constructor.{Constructor}
use Rattle.elm_base.specs.declared.tree.Import.{Import}
use Rattle.elm_base.specs.declared.tree.Declaration.{Declaration}
use Rattle.elm_base.specs.declared.tree.Declaration.TheVariants as d
use Rattle.elm_base.specs.declared.tree.TypeTree.{TypeTree}
use Rattle.grammar.specs.declared.terminal.Terminal.{Terminal}
use Rattle.grammar.specs.declared.terminal.Terminal.TheVariants as k
use Rattle.grammar.specs.Terminals.{is_qualified}
use Rattle.grammar.specs.Spelling.{int_value}
use Rattle.grammar.specs.Reader.{Parser, and_then, is_done, spelled, name, mark, nothing, ◌⊗◌, ◌▷◌, ◌◁◌, ◌<$>◌, choose, choose_if, optional, many, only, at, spot, stands_in}
use Rattle.grammar.specs.Lists.{separated}
use Rattle.pattern_parser.specs.TypeReader as types
use Rattle.pattern_parser.specs.TypeReader.{type_at}
use Rattle.expr_grammar.specs.ExprReader.{Below, sign, operator, annotated, defined}
use Rattle.module_grammar.specs.Declarations.{is_level, level_of}
use Rattle.module_grammar.specs.declared.header.Header.{Header}

-- ---- names

unfoldable pub upper : Parser (List ℕ)
upper = only (λ text. not (is_qualified text)) (name k.Upper)

unfoldable pub upper_spot : Parser Spot
upper_spot = (λ x. record { at = x.0; name = x.1 }) <$> at upper

unfoldable pub bracketed : Parser (List ℕ)
bracketed = mark k.LeftParen ▷ sign ◁ mark k.RightParen

-- ---- what is exposed

unfoldable pub all_constructors : Parser Constructors
all_constructors = (λ x. constructors_.All) <$> mark k.DotDot

unfoldable pub listed_constructors : Parser Constructors
listed_constructors = (λ xs. constructors_.Listed xs) <$> separated upper_spot

unfoldable pub shown : Parser Constructors
shown = choose (k.DotDot ∷ []) all_constructors listed_constructors

unfoldable pub constructors_shown : Parser Constructors
constructors_shown = choose (k.LeftParen ∷ []) (mark k.LeftParen ▷ shown ◁ mark k.RightParen) (nothing constructors_.Hidden)

unfoldable pub value_item : Parser Item
value_item = (λ x. item_.Value x.0 x.1) <$> at (name k.Lower)

unfoldable pub operator_item : Parser Item
operator_item = (λ x. item_.Operator x.0 x.1) <$> at bracketed

unfoldable pub type_item : Parser Item
type_item = (λ x. item_.Named x.0 x.1.0 x.1.1) <$> at (upper ⊗ constructors_shown)

unfoldable pub item : Parser Item
item = choose (k.Lower ∷ []) value_item (choose (k.LeftParen ∷ []) operator_item type_item)

unfoldable pub all_exposed : Parser Exposing
all_exposed = (λ x. exposing_.All) <$> mark k.DotDot

unfoldable pub items_exposed : Parser Exposing
items_exposed = (λ xs. exposing_.Items xs) <$> separated item

unfoldable pub exposed : Parser Exposing
exposed = choose (k.DotDot ∷ []) all_exposed items_exposed

unfoldable pub exposing_list : Parser Exposing
exposing_list = mark k.LeftParen ▷ exposed ◁ mark k.RightParen

-- ---- header and imports

unfoldable pub header_exposing : Parser Exposing
header_exposing = choose (k.LeftParen ∷ []) exposing_list (nothing exposing_.All)

unfoldable pub header : Parser Header
header =
    (λ x. record { at = x.0; name = x.1.0; exposes = x.1.1 })
    <$> at (mark k.Module ▷ name k.Upper ⊗ header_exposing ◁ mark k.Where)

unfoldable pub import_alias : Parser (Option (List ℕ))
import_alias = optional (k.As ∷ []) (mark k.As ▷ upper)

unfoldable pub import_exposing : Parser (Option Exposing)
import_exposing = optional (k.Exposing ∷ []) (mark k.Exposing ▷ exposing_list)

unfoldable pub import_ : Parser Import
import_ =
    (λ x. record { at = x.0; «module» = x.1.0; alias = x.1.1.0; exposes = x.1.1.1 })
    <$> at (mark k.Import ▷ name k.Upper ⊗ import_alias ⊗ import_exposing)

-- ---- levels

unfoldable pub level : Parser ℕ
level = level_of <$> only is_level (spelled k.Int int_value)

unfoldable pub left_grouping : Parser Side
left_grouping = (λ x. side.Left) <$> mark k.Infixl

unfoldable pub right_grouping : Parser Side
right_grouping = (λ x. side.Right) <$> mark k.Infixr

unfoldable pub no_grouping : Parser Side
no_grouping = (λ x. side.Neither) <$> mark k.Infix

unfoldable pub grouping : Parser Side
grouping = choose (k.Infixl ∷ []) left_grouping (choose (k.Infixr ∷ []) right_grouping no_grouping)

unfoldable pub levels : Parser Declaration
levels = (λ x. d.Levels x.0 x.1.0 x.1.1.0 x.1.1.1) <$> at (grouping ⊗ level ⊗ operator)

-- ---- declarations

abbrev pub levels_begin : List Terminal
levels_begin = k.Infixl ∷ k.Infixr ∷ k.Infix ∷ []

unfoldable pub own_name : Parser (List ℕ)
own_name = choose (k.Lower ∷ []) (name k.Lower) bracketed

-- the names of parameters
unfoldable pub variables : Parser (List Spot)
variables = many (k.Lower ∷ []) spot

module _ (inner : Below) where
  abbrev pub type_ : Parser TypeTree
  type_ = type_at inner.depth

  unfoldable pub constructor : Parser Constructor
  constructor = (λ x. record { at = x.0; name = x.1.0; arguments = x.1.1 }) <$> at (upper ⊗ types.arguments type_)

  unfoldable pub next_constructor : Parser Constructor
  next_constructor = mark k.Bar ▷ constructor

  unfoldable pub constructors : Parser (List Constructor)
  constructors = (λ x. x.0 ∷ x.1) <$> constructor ⊗ many (k.Bar ∷ []) next_constructor

  unfoldable pub union : Parser (At → Declaration)
  union = (λ x at. d.Union at x.0 x.1.0 x.1.1) <$> upper_spot ⊗ variables ⊗ mark k.Equals ▷ constructors

  unfoldable pub alias : Parser (At → Declaration)
  alias = (λ x at. d.Alias at x.0 x.1.0 x.1.1) <$> mark k.Alias ▷ upper_spot ⊗ variables ⊗ mark k.Equals ▷ type_

  unfoldable pub type_declaration : Parser Declaration
  type_declaration = (λ x. x.1 x.0) <$> at (mark k.Type ▷ choose (k.Alias ∷ []) alias union)

  unfoldable pub port_annotated : Parser (At → Spot → Declaration)
  port_annotated = (λ written at name. d.PortAnnotation at name written) <$> mark k.Colon ▷ type_

  unfoldable pub port_defined : Parser (At → Spot → Declaration)
  port_defined = (λ body at name. d.PortDefinition at name body) <$> mark k.Equals ▷ inner.whole

  unfoldable pub port : Parser Declaration
  port = (λ x. x.1.1 x.0 x.1.0) <$> at (mark k.Port ▷ spot ⊗ choose (k.Colon ∷ []) port_annotated port_defined)

  unfoldable pub named_declaration : Parser Declaration
  named_declaration = (λ x. x.1.1 x.0 x.1.0) <$> at (own_name ⊗ choose (k.Colon ∷ []) (annotated inner) (defined inner))

  unfoldable pub declaration : Parser Declaration
  declaration = choose (k.Type ∷ []) type_declaration (choose (k.Port ∷ []) port (choose levels_begin levels named_declaration))

-- ---- whole chunks

-- with no token left
abbrev pub whole : {A : Type 0} → Parser A → Parser A
whole p ts = and_then (p ts) (λ x us. if is_done us then Some (x, us) else None)

-- from column 1 on
abbrev pub line : {A : Type 0} → Parser A → Parser A
line p = choose_if (stands_in 1) (whole p) (λ ts. None)
