-- The parser of expressions, as a function on the tokens.
use Rattle.std.specs.Prelude.{ℕ, zero, suc, nat_le, Bool, true, false, not, List, [], ◌∷◌, length, None}
use Rattle.elm_base.specs.declared.token.At.{At}
use Rattle.elm_base.specs.declared.tree.Operator.{Operator}
use Rattle.elm_base.specs.declared.tree.Pattern.{Pattern}
use Rattle.elm_base.specs.declared.tree.Set.{Set}
use Rattle.elm_base.specs.declared.tree.Expr.{Expr}
use Rattle.elm_base.specs.declared.tree.Expr.TheVariants as e
use Rattle.elm_base.specs.declared.tree.Declaration.{Declaration}
use Rattle.elm_base.specs.declared.tree.Declaration.TheVariants as d
use Rattle.grammar.specs.declared.terminal.Terminal.{Terminal}
use Rattle.grammar.specs.declared.terminal.Terminal.TheVariants as k
use Rattle.grammar.specs.Rules.{at_most_nine}
use Rattle.grammar.specs.Spelling.{int_value, char_value, text_value, label_of}
use Rattle.expr_grammar.specs.Expressions.{applied, chained, accessed, enclosed, set_of, is_brackets, ends_in_guards, annotations_stand}
use Rattle.grammar.specs.Reader.{Parser, spelled, name, mark, nothing, ◌⊗◌, ◌▷◌, ◌◁◌, ◌<$>◌, choose, choose_if, starts_two, many, only, at, linked, block}
use Rattle.grammar.specs.Lists.{some, separated}
use Rattle.pattern_parser.specs.TypeReader.{type_at}
use Rattle.pattern_parser.specs.PatternReader as patterns
use Rattle.pattern_parser.specs.PatternReader.{cons_at, patterns_begin}

-- ---- what the parts begin with

abbrev pub atoms_begin : List Terminal
atoms_begin = k.Int ∷ k.Char ∷ k.Text ∷ k.Lower ∷ k.QualifiedLower ∷ k.Upper ∷ k.FieldFunction ∷ k.LeftParen ∷ k.LeftBracket ∷ k.LeftBrace ∷ []

abbrev pub signs_begin : List Terminal
signs_begin = k.Operator ∷ k.Minus ∷ k.Cons ∷ []

abbrev pub operators_begin : List Terminal
operators_begin = k.Operator ∷ k.Minus ∷ k.Cons ∷ k.Backtick ∷ []

abbrev pub operands_begin : List Terminal
operands_begin = k.Minus ∷ atoms_begin

abbrev pub last_forms_begin : List Terminal
last_forms_begin = k.Backslash ∷ k.If ∷ k.Let ∷ k.Case ∷ []

abbrev pub expressions_begin : List Terminal
expressions_begin = k.Backslash ∷ k.If ∷ k.Let ∷ k.Case ∷ operands_begin

abbrev pub definitions_begin : List Terminal
definitions_begin = k.Lower ∷ k.LeftParen ∷ k.LeftBrace ∷ []

-- ---- operators

unfoldable pub sign : Parser (List ℕ)
sign = choose (k.Operator ∷ []) (name k.Operator) (choose (k.Minus ∷ []) (name k.Minus) (name k.Cons))

unfoldable pub any_lower : Parser (List ℕ)
any_lower = choose (k.Lower ∷ []) (name k.Lower) (name k.QualifiedLower)

unfoldable pub quoted : Parser (List ℕ)
quoted = mark k.Backtick ▷ any_lower ◁ mark k.Backtick

unfoldable pub operator : Parser Operator
operator = (λ x. record { at = x.0; name = x.1 }) <$> at (choose signs_begin sign quoted)

-- ---- atoms without parts

unfoldable pub int : Parser Expr
int = (λ x. e.Int x.0 x.1) <$> at (spelled k.Int int_value)

unfoldable pub char_ : Parser Expr
char_ = (λ x. e.Char x.0 x.1) <$> at (spelled k.Char char_value)

unfoldable pub text : Parser Expr
text = (λ x. e.Text x.0 x.1) <$> at (spelled k.Text text_value)

unfoldable pub variable : Parser Expr
variable = (λ x. e.Variable x.0 x.1) <$> at any_lower

unfoldable pub constructor : Parser Expr
constructor = (λ x. e.Constructor x.0 x.1) <$> at (name k.Upper)

unfoldable pub field_function : Parser Expr
field_function = (λ x. e.FieldFunction x.0 x.1) <$> at (spelled k.FieldFunction label_of)

unfoldable pub operator_name : Parser (At → Expr)
operator_name = (λ name at. e.OperatorName at name) <$> sign ◁ mark k.RightParen

unfoldable pub commas : Parser (List (Unit {0}))
commas = only (λ commas. nat_le (length commas) 8) (some (k.Comma ∷ []) (mark k.Comma))

unfoldable pub tuple_maker : Parser (At → Expr)
tuple_maker = (λ commas at. e.TupleMaker at (suc (length commas))) <$> commas ◁ mark k.RightParen

-- ---- over the parsers of the level below

-- How deep types and patterns may nest, and the parsers of a whole expression and of an atom that may stand inside.
pub record Below : Type 0 where
  pub depth : ℕ
  pub whole : Parser Expr
  pub atom : Parser Expr

module _ (inner : Below) where
  abbrev pub pattern_ : Parser Pattern
  pattern_ = patterns.whole (cons_at inner.depth)

  abbrev pub parameter : Parser Pattern
  parameter = patterns.part (cons_at inner.depth)

  abbrev pub parameters : Parser (List Pattern)
  parameters = many patterns_begin parameter

  abbrev pub some_parameters : Parser (List Pattern)
  some_parameters = some patterns_begin parameter

  unfoldable pub compound : Parser Pattern
  compound = choose (k.LeftParen ∷ []) (only (λ x. not (is_brackets x)) (patterns.brackets (cons_at inner.depth))) patterns.labels

  -- an expression behind this token
  abbrev pub behind : Terminal → Parser Expr
  behind symbol = mark symbol ▷ inner.whole

  abbrev pub more : Parser (List Expr)
  more = many (k.Comma ∷ []) (behind k.Comma)

  abbrev pub wholes : Parser (List Expr)
  wholes = separated inner.whole

  unfoldable pub any_parts : Parser (List Expr)
  any_parts = only at_most_nine (choose expressions_begin wholes (nothing []))

  unfoldable pub parts : Parser (At → Expr)
  parts = (λ xs at. enclosed (at, xs)) <$> any_parts ◁ mark k.RightParen

  unfoldable pub inside_brackets : Parser (At → Expr)
  inside_brackets = choose_if (starts_two signs_begin (k.RightParen ∷ [])) operator_name (choose (k.Comma ∷ []) tuple_maker parts)

  unfoldable pub brackets : Parser Expr
  brackets = (λ x. x.1 x.0) <$> at (mark k.LeftParen ▷ inside_brackets)

  unfoldable pub behind_low : Parser (At → Expr → Expr)
  behind_low = (λ high at low. e.Range at low high) <$> mark k.DotDot ▷ inner.whole

  unfoldable pub behind_part : Parser (At → Expr → Expr)
  behind_part = (λ parts at first. e.List at (first ∷ parts)) <$> more

  unfoldable pub inside_list : Parser (At → Expr)
  inside_list = choose expressions_begin ((λ x at. x.1 at x.0) <$> inner.whole ⊗ choose (k.DotDot ∷ []) behind_low behind_part) (nothing (λ at. e.List at []))

  unfoldable pub list : Parser Expr
  list = (λ x. x.1 x.0) <$> at (mark k.LeftBracket ▷ inside_list ◁ mark k.RightBracket)

  unfoldable pub set : Terminal → Parser Set
  set symbol = set_of <$> at (name k.Lower ⊗ mark symbol ▷ inner.whole)

  abbrev pub sets : Terminal → Parser (List Set)
  sets symbol = separated (set symbol)

  unfoldable pub fields : Parser (At → Expr)
  fields = (λ sets at. e.Fields at sets) <$> sets k.Equals

  unfoldable pub extended : Parser (At → Expr → Expr)
  extended = (λ sets at from. e.Extend at from sets) <$> sets k.Equals

  unfoldable pub updated : Parser (At → Expr → Expr)
  updated = (λ sets at from. e.Update at from sets) <$> sets k.LeftArrow

  unfoldable pub behind_bar : Parser (At → Expr → Expr)
  behind_bar = mark k.Bar ▷ choose_if (starts_two (k.Lower ∷ []) (k.Equals ∷ [])) extended updated

  unfoldable pub new_fields : Parser (List Set)
  new_fields = choose (k.Bar ∷ []) (mark k.Bar ▷ sets k.Equals) (nothing [])

  unfoldable pub removed : Parser (At → Expr → Expr)
  removed = (λ x at from. e.Remove at from x.0 x.1) <$> mark k.Minus ▷ name k.Lower ⊗ new_fields

  unfoldable pub over_record : Parser (At → Expr)
  over_record = (λ x at. x.1 at x.0) <$> inner.atom ⊗ choose (k.Bar ∷ []) behind_bar removed

  unfoldable pub filled_braces : Parser (At → Expr)
  filled_braces = choose_if (starts_two (k.Lower ∷ []) (k.Equals ∷ [])) fields over_record

  unfoldable pub inside_braces : Parser (At → Expr)
  inside_braces = choose atoms_begin filled_braces (nothing (λ at. e.Fields at []))

  unfoldable pub braces : Parser Expr
  braces = (λ x. x.1 x.0) <$> at (mark k.LeftBrace ▷ inside_braces ◁ mark k.RightBrace)

  abbrev pub with_parts : Parser Expr
  with_parts = choose (k.LeftParen ∷ []) brackets (choose (k.LeftBracket ∷ []) list braces)

  unfoldable pub primary : Parser Expr
  primary =
      choose (k.Int ∷ []) int (choose (k.Char ∷ []) char_ (choose (k.Text ∷ []) text
      (choose (k.Lower ∷ k.QualifiedLower ∷ []) variable (choose (k.Upper ∷ []) constructor (choose (k.FieldFunction ∷ []) field_function
      with_parts)))))

  unfoldable pub accesses : Parser (List (List ℕ))
  accesses = only (λ labels. nat_le (length labels) inner.depth) (many (k.Access ∷ []) (spelled k.Access label_of))

  unfoldable pub atom : Parser Expr
  atom = accessed <$> at (primary ⊗ accesses)

  abbrev pub arguments : Parser (List Expr)
  arguments = many atoms_begin atom

  unfoldable pub application : Parser Expr
  application = applied <$> at (atom ⊗ arguments)

  unfoldable pub negation : Parser Expr
  negation = (λ x. e.Negate x.0 x.1) <$> at (mark k.Minus ▷ application)

  unfoldable pub operand : Parser Expr
  operand = choose (k.Minus ∷ []) negation application

  unfoldable pub lambda : Parser Expr
  lambda = (λ x. e.Lambda x.0 x.1.0 x.1.1) <$> at (mark k.Backslash ▷ some_parameters ⊗ mark k.Arrow ▷ inner.whole)

  unfoldable pub two_way : Parser (At → Expr)
  two_way = (λ x at. e.If at x.0 x.1.0 x.1.1) <$> inner.whole ⊗ (mark k.Then ▷ inner.whole) ⊗ mark k.Else ▷ inner.whole

  abbrev pub closed : Parser Expr
  closed = only (λ x. not (ends_in_guards x)) inner.whole

  abbrev pub chosen : Parser Expr
  chosen = mark k.Arrow ▷ closed

  unfoldable pub guard : Parser (Expr × Expr)
  guard = behind k.Bar ⊗ chosen

  abbrev pub guards : Parser (List (Expr × Expr))
  guards = some (k.Bar ∷ []) guard

  unfoldable pub multi_way : Parser (At → Expr)
  multi_way = (λ branches at. e.Guards at branches) <$> guards

  unfoldable pub conditional : Parser Expr
  conditional = (λ x. x.1 x.0) <$> at (mark k.If ▷ choose expressions_begin two_way multi_way)

  unfoldable pub annotated : Parser (At → List ℕ → Declaration)
  annotated = (λ written at name. d.Annotation at name written) <$> mark k.Colon ▷ type_at inner.depth

  unfoldable pub defined : Parser (At → List ℕ → Declaration)
  defined = (λ x at name. d.Definition at name x.0 x.1) <$> parameters ⊗ mark k.Equals ▷ inner.whole

  unfoldable pub named_definition : Parser Declaration
  named_definition = (λ x. x.1.1 x.0 x.1.0) <$> at (name k.Lower ⊗ choose (k.Colon ∷ []) annotated defined)

  unfoldable pub pattern_definition : Parser Declaration
  pattern_definition = (λ x. d.PatternDefinition x.0 x.1.0 x.1.1) <$> at (compound ⊗ mark k.Equals ▷ inner.whole)

  unfoldable pub definition : Parser Declaration
  definition = choose (k.Lower ∷ []) named_definition pattern_definition

  abbrev pub definition_block : Parser (List Declaration)
  definition_block = block definitions_begin definition

  unfoldable pub definitions : Parser (List Declaration)
  definitions = only annotations_stand definition_block

  unfoldable pub let_in : Parser Expr
  let_in = (λ x. e.Let x.0 x.1.0 x.1.1) <$> at (mark k.Let ▷ definitions ⊗ mark k.In ▷ inner.whole)

  unfoldable pub branch : Parser (Pattern × Expr)
  branch = pattern_ ⊗ mark k.Arrow ▷ inner.whole

  abbrev pub branches : Parser (List (Pattern × Expr))
  branches = block patterns_begin branch

  unfoldable pub case_of : Parser Expr
  case_of = (λ x. e.Case x.0 x.1.0 x.1.1) <$> at (mark k.Case ▷ inner.whole ⊗ mark k.Of ▷ branches)

  unfoldable pub last_form : Parser Expr
  last_form = choose (k.Backslash ∷ []) lambda (choose (k.If ∷ []) conditional (choose (k.Let ∷ []) let_in case_of))

  abbrev pub linked_operand : Parser Expr
  linked_operand = choose last_forms_begin last_form operand

  unfoldable pub links : Parser (List (Operator × Expr))
  links = linked operators_begin last_forms_begin operator operand last_form

  unfoldable pub chain : Parser Expr
  chain = chained <$> at (operand ⊗ links)

  unfoldable pub level : Parser Expr
  level = choose last_forms_begin last_form chain

unfoldable pub tree_at : Bool → ℕ → Parser Expr
tree_at alone zero ts = None
tree_at true (suc depth) ts = atom (record { depth = depth; whole = tree_at false depth; atom = tree_at true depth }) ts
tree_at false (suc depth) ts = level (record { depth = depth; whole = tree_at false depth; atom = tree_at true depth }) ts

-- what is below the next depth
abbrev pub below : ℕ → Below
below depth = record { depth = depth; whole = tree_at false depth; atom = tree_at true depth }
