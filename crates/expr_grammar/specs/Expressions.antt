-- The grammar of expressions.
use Rattle.std.specs.Prelude.{ℕ, zero, suc, nat_eq, nat_le, Bool, true, false, not, ◌&&◌, List, [], ◌∷◌, length, map, Option, Some, None}
use lib.Pointwise.{pointwise}
use Rattle.elm_base.specs.declared.token.At.{At}
use Rattle.elm_base.specs.declared.tree.Operator.{Operator}
use Rattle.elm_base.specs.declared.tree.Pattern.{Pattern, out-Pattern}
use Rattle.elm_base.specs.declared.tree.Pattern.TheOpen as pattern
use Rattle.elm_base.specs.declared.tree.Set.{Set, roll-Set}
use Rattle.elm_base.specs.declared.tree.Expr.{Expr}
use Rattle.elm_base.specs.declared.tree.Expr.TheVariants as e
use Rattle.elm_base.specs.declared.tree.Declaration.TheOpen as open_
use Rattle.elm_base.specs.declared.tree.Declaration.TheFolds.{fold-Expr}
use Rattle.elm_base.specs.declared.tree.Declaration.{Declaration, out-Declaration}
use Rattle.elm_base.specs.declared.tree.Declaration.TheVariants as d
use Rattle.grammar.specs.declared.terminal.Terminal.{Terminal}
use Rattle.grammar.specs.declared.terminal.Terminal.TheVariants as k
use Rattle.elm_base.specs.Lexemes.{Lexeme}
use Rattle.grammar.specs.Spelling.{int_value, char_value, text_value, label_of}
use Rattle.grammar.specs.Rules.{Rule, spelled, name, mark, nothing, ◌⊗◌, ◌▷◌, ◌◁◌, ◌∣◌, ◌<$>◌, many, some, separated, only, at_most_nine, at, linked, block}
use Rattle.pattern_parser.specs.Types.{type_at}
use Rattle.pattern_parser.specs.Patterns as patterns
use Rattle.pattern_parser.specs.Patterns.{cons_at}

-- ---- trees

abbrev pub applied : At × (Expr × List Expr) → Expr
applied (at, (f, [])) = f
applied (at, (f, x ∷ xs)) = e.Call at f (x ∷ xs)

abbrev pub chained : At × (Expr × List (Operator × Expr)) → Expr
chained (at, (first, [])) = first
chained (at, (first, x ∷ xs)) = e.Chain at (first ∷ map (λ link. link.1) (x ∷ xs)) (map (λ link. link.0) (x ∷ xs))

abbrev pub accessed_at : At → Expr → List (List ℕ) → Expr
accessed_at at whole [] = whole
accessed_at at whole (label ∷ labels) = accessed_at at (e.Access at whole label) labels

abbrev pub accessed : At × (Expr × List (List ℕ)) → Expr
accessed x = accessed_at x.0 x.1.0 x.1.1

abbrev pub set_of : At × (List ℕ × Expr) → Set
set_of x = roll-Set (record { at = x.0; label = x.1.0; value = x.1.1 })

-- what brackets round these expressions make
abbrev pub enclosed : At × List Expr → Expr
enclosed (at, []) = e.Unit at
enclosed (at, x ∷ []) = e.Brackets at x
enclosed (at, x ∷ y ∷ ys) = e.Tuple at (x ∷ y ∷ ys)

-- ---- operators

abbrev pub sign : Rule (List ℕ)
sign = name k.Operator ∣ name k.Minus ∣ name k.Cons

abbrev pub quoted : Rule (List ℕ)
quoted = mark k.Backtick ▷ (name k.Lower ∣ name k.QualifiedLower) ◁ mark k.Backtick

abbrev pub operator : Rule Operator
operator = (λ x. record { at = x.0; name = x.1 }) <$> at (sign ∣ quoted)

-- ---- atoms without parts

abbrev pub int : Rule Expr
int = (λ x. e.Int x.0 x.1) <$> at (spelled k.Int int_value)

abbrev pub char_ : Rule Expr
char_ = (λ x. e.Char x.0 x.1) <$> at (spelled k.Char char_value)

abbrev pub text : Rule Expr
text = (λ x. e.Text x.0 x.1) <$> at (spelled k.Text text_value)

abbrev pub variable : Rule Expr
variable = (λ x. e.Variable x.0 x.1) <$> at (name k.Lower ∣ name k.QualifiedLower)

abbrev pub constructor : Rule Expr
constructor = (λ x. e.Constructor x.0 x.1) <$> at (name k.Upper)

abbrev pub field_function : Rule Expr
field_function = (λ x. e.FieldFunction x.0 x.1) <$> at (spelled k.FieldFunction label_of)

-- behind an opening bracket: an operator alone, or commas alone, which are one fewer than the parts
abbrev pub operator_name : Rule (At → Expr)
operator_name = (λ name at. e.OperatorName at name) <$> sign ◁ mark k.RightParen

abbrev pub tuple_maker : Rule (At → Expr)
tuple_maker = (λ commas at. e.TupleMaker at (suc (length commas))) <$> only (λ commas. nat_le (length commas) 8) (some (mark k.Comma)) ◁ mark k.RightParen

-- ---- tests on trees

-- whether the last one passes
abbrev pub last_of : List Bool → Bool
last_of [] = false
last_of (b ∷ []) = b
last_of (b ∷ c ∷ bs) = last_of (c ∷ bs)

-- Whether an expression ends in a multi-way `if` outside brackets, from the answers for its parts.
abbrev pub ends_step : open_.Expr-F Bool Bool Bool → Bool
ends_step (open_.Chain at operands operators) = last_of operands
ends_step (open_.Lambda at parameters body) = body
ends_step (open_.If at condition first second) = second
ends_step (open_.Guards at branches) = true
ends_step (open_.Let at definitions body) = body
ends_step (open_.Case at scrutinee branches) = last_of (map (λ branch. branch.1) branches)
ends_step _ = false

abbrev pub ends_in_guards : Expr → Bool
ends_in_guards = fold-Expr Bool Bool Bool (λ declaration. false) ends_step (λ set. false)

abbrev pub is_brackets_layer : {A : Type 0} → pattern.Pattern-F A → Bool
is_brackets_layer (pattern.Brackets at inner) = true
is_brackets_layer _ = false

-- one pattern in brackets
abbrev pub is_brackets : Pattern → Bool
is_brackets tree = is_brackets_layer (out-Pattern tree)

abbrev pub annotated_name : {A B C : Type 0} → open_.Declaration-F A B C → Option (List ℕ)
annotated_name (open_.Annotation at name written) = Some name
annotated_name _ = None

abbrev pub defined_name : {A B C : Type 0} → open_.Declaration-F A B C → Option (List ℕ)
defined_name (open_.Definition at name parameters body) = Some name
defined_name _ = None

abbrev pub is_some_of : List ℕ → Option (List ℕ) → Bool
is_some_of name None = false
is_some_of name (Some other) = pointwise nat_eq name other

-- whether the first of the declarations defines the name
abbrev pub defines : List ℕ → List Declaration → Bool
defines name [] = false
defines name (x ∷ rest) = is_some_of name (defined_name (out-Declaration x))

abbrev pub stands : Option (List ℕ) → List Declaration → Bool
stands None rest = true
stands (Some name) rest = defines name rest

-- whether each annotation stands directly before its definition
abbrev pub annotations_stand : List Declaration → Bool
annotations_stand [] = true
annotations_stand (x ∷ rest) = stands (annotated_name (out-Declaration x)) rest && annotations_stand rest

-- ---- rules, over those of the level below

-- How deep types and patterns may nest, and the rules of a whole expression and of an atom that may stand inside.
pub record Below : Type 1 where
  pub depth : ℕ
  pub whole : Rule Expr
  pub atom : Rule Expr

module _ (inner : Below) where
  abbrev pub pattern_ : Rule Pattern
  pattern_ = patterns.whole (cons_at inner.depth)

  abbrev pub parameter : Rule Pattern
  parameter = patterns.part (cons_at inner.depth)

  -- a pattern that may stand left of `=`: brackets round no pattern or several, or labels
  abbrev pub compound : Rule Pattern
  compound = only (λ x. not (is_brackets x)) (patterns.brackets (cons_at inner.depth)) ∣ patterns.labels

  -- behind an opening bracket: no expression, one, or the parts of a tuple
  abbrev pub parts : Rule (At → Expr)
  parts = (λ xs at. enclosed (at, xs)) <$> only at_most_nine (separated inner.whole ∣ nothing []) ◁ mark k.RightParen

  abbrev pub brackets : Rule Expr
  brackets = (λ x. x.1 x.0) <$> at (mark k.LeftParen ▷ (operator_name ∣ tuple_maker ∣ parts))

  -- behind the first expression in square brackets: the end of a range, or more parts
  abbrev pub behind_low : Rule (At → Expr → Expr)
  behind_low = (λ high at low. e.Range at low high) <$> mark k.DotDot ▷ inner.whole

  abbrev pub behind_part : Rule (At → Expr → Expr)
  behind_part = (λ parts at first. e.List at (first ∷ parts)) <$> many (mark k.Comma ▷ inner.whole)

  abbrev pub inside_list : Rule (At → Expr)
  inside_list = (λ x at. x.1 at x.0) <$> inner.whole ⊗ (behind_low ∣ behind_part) ∣ nothing (λ at. e.List at [])

  abbrev pub list : Rule Expr
  list = (λ x. x.1 x.0) <$> at (mark k.LeftBracket ▷ inside_list ◁ mark k.RightBracket)

  -- a field and its value, with `=` between, or `<-` where the field is there already
  abbrev pub set : Terminal → Rule Set
  set symbol = set_of <$> at (name k.Lower ⊗ mark symbol ▷ inner.whole)

  abbrev pub access : Rule (List ℕ)
  access = spelled k.Access label_of

  abbrev pub fields : Rule (At → Expr)
  fields = (λ sets at. e.Fields at sets) <$> separated (set k.Equals)

  -- behind the bar of a record: fields that are new, or fields that change
  abbrev pub extended : Rule (At → Expr → Expr)
  extended = (λ sets at from. e.Extend at from sets) <$> separated (set k.Equals)

  abbrev pub updated : Rule (At → Expr → Expr)
  updated = (λ sets at from. e.Update at from sets) <$> separated (set k.LeftArrow)

  abbrev pub new_fields : Rule (List Set)
  new_fields = mark k.Bar ▷ separated (set k.Equals) ∣ nothing []

  abbrev pub removed : Rule (At → Expr → Expr)
  removed = (λ x at from. e.Remove at from x.0 x.1) <$> mark k.Minus ▷ name k.Lower ⊗ new_fields

  abbrev pub over_record : Rule (At → Expr)
  over_record = (λ x at. x.1 at x.0) <$> inner.atom ⊗ (mark k.Bar ▷ (extended ∣ updated) ∣ removed)

  abbrev pub inside_braces : Rule (At → Expr)
  inside_braces = (fields ∣ over_record) ∣ nothing (λ at. e.Fields at [])

  abbrev pub braces : Rule Expr
  braces = (λ x. x.1 x.0) <$> at (mark k.LeftBrace ▷ inside_braces ◁ mark k.RightBrace)

  abbrev pub primary : Rule Expr
  primary = int ∣ char_ ∣ text ∣ variable ∣ constructor ∣ field_function ∣ brackets ∣ list ∣ braces

  -- at most so many accesses as the depth has levels left
  abbrev pub atom : Rule Expr
  atom = accessed <$> at (primary ⊗ only (λ labels. nat_le (length labels) inner.depth) (many access))

  abbrev pub application : Rule Expr
  application = applied <$> at (atom ⊗ many atom)

  abbrev pub negation : Rule Expr
  negation = (λ x. e.Negate x.0 x.1) <$> at (mark k.Minus ▷ application)

  abbrev pub operand : Rule Expr
  operand = negation ∣ application

  abbrev pub lambda : Rule Expr
  lambda = (λ x. e.Lambda x.0 x.1.0 x.1.1) <$> at (mark k.Backslash ▷ some parameter ⊗ mark k.Arrow ▷ inner.whole)

  abbrev pub two_way : Rule (At → Expr)
  two_way = (λ x at. e.If at x.0 x.1.0 x.1.1) <$> inner.whole ⊗ (mark k.Then ▷ inner.whole) ⊗ mark k.Else ▷ inner.whole

  -- a branch of a multi-way `if` doesn't end in another
  abbrev pub guard : Rule (Expr × Expr)
  guard = (mark k.Bar ▷ inner.whole) ⊗ mark k.Arrow ▷ only (λ x. not (ends_in_guards x)) inner.whole

  abbrev pub multi_way : Rule (At → Expr)
  multi_way = (λ branches at. e.Guards at branches) <$> some guard

  abbrev pub conditional : Rule Expr
  conditional = (λ x. x.1 x.0) <$> at (mark k.If ▷ (two_way ∣ multi_way))

  -- behind the name of a definition
  abbrev pub annotated : Rule (At → List ℕ → Declaration)
  annotated = (λ written at name. d.Annotation at name written) <$> mark k.Colon ▷ type_at inner.depth

  abbrev pub defined : Rule (At → List ℕ → Declaration)
  defined = (λ x at name. d.Definition at name x.0 x.1) <$> many parameter ⊗ mark k.Equals ▷ inner.whole

  abbrev pub named_definition : Rule Declaration
  named_definition = (λ x. x.1.1 x.0 x.1.0) <$> at (name k.Lower ⊗ (annotated ∣ defined))

  abbrev pub pattern_definition : Rule Declaration
  pattern_definition = (λ x. d.PatternDefinition x.0 x.1.0 x.1.1) <$> at (compound ⊗ mark k.Equals ▷ inner.whole)

  abbrev pub definition : Rule Declaration
  definition = named_definition ∣ pattern_definition

  abbrev pub let_in : Rule Expr
  let_in = (λ x. e.Let x.0 x.1.0 x.1.1) <$> at (mark k.Let ▷ only annotations_stand (block definition) ⊗ mark k.In ▷ inner.whole)

  abbrev pub branch : Rule (Pattern × Expr)
  branch = pattern_ ⊗ mark k.Arrow ▷ inner.whole

  abbrev pub case_of : Rule Expr
  case_of = (λ x. e.Case x.0 x.1.0 x.1.1) <$> at (mark k.Case ▷ inner.whole ⊗ mark k.Of ▷ block branch)

  -- a form that takes all that stands behind it, so it stands last in a chain
  abbrev pub last_form : Rule Expr
  last_form = lambda ∣ conditional ∣ let_in ∣ case_of

  abbrev pub chain : Rule Expr
  chain = chained <$> at (operand ⊗ linked operator operand last_form)

  abbrev pub level : Rule Expr
  level = last_form ∣ chain

-- An expression, or an atom alone, that needs at most so many of these inside each other.
unfoldable pub tree_at : Bool → ℕ → Rule Expr
tree_at alone zero ts x = ⊥
tree_at true (suc depth) ts x = atom (record { depth = depth; whole = tree_at false depth; atom = tree_at true depth }) ts x
tree_at false (suc depth) ts x = level (record { depth = depth; whole = tree_at false depth; atom = tree_at true depth }) ts x

-- all of the tokens stand for the expression
abbrev pub DerivesExpr : List Lexeme → Expr → Type 0
DerivesExpr ts x = (depth : ℕ) × tree_at false depth ts x
