-- The parser of expressions reads their grammar.
use Rattle.std.proofs.Common.{ℕ, zero, suc, nat_le, true, false, not, List, [], ◌∷◌, ◌++◌, length, refl}
use Rattle.elm_base.specs.declared.token.At.{At}
use Rattle.elm_base.specs.declared.tree.Operator.{Operator}
use Rattle.elm_base.specs.declared.tree.Pattern.{Pattern}
use Rattle.elm_base.specs.declared.tree.Expr.{Expr}
use Rattle.grammar.specs.declared.terminal.Terminal.{Terminal}
use Rattle.grammar.specs.declared.terminal.Terminal.TheVariants as k
use Rattle.grammar.specs.Terminals.{same_terminal}
use Rattle.grammar.specs.Spelling.{int_value, char_value, text_value, label_of}
use Rattle.grammar.specs.Rules as rule
use Rattle.grammar.specs.Rules.{Rule, at_most_nine}
use Rattle.grammar.specs.Reader as reader
use Rattle.grammar.specs.Reader.{Parser}
use Rattle.grammar.specs.Lists as lists
use Rattle.pattern_parser.specs.PatternReader.{patterns_begin}
use Rattle.expr_grammar.specs.Expressions as g
use Rattle.expr_grammar.specs.Expressions.{is_brackets, ends_in_guards, annotations_stand}
use Rattle.expr_grammar.specs.ExprReader as m
use Rattle.expr_grammar.specs.ExprReader.{atoms_begin, signs_begin, operators_begin, operands_begin, last_forms_begin, expressions_begin, definitions_begin}
use Rattle.grammar.proofs.Laws.{Reading, seq, by, within, spelled, name, mark, nothing, either, only, at, many}
use Rattle.grammar.proofs.ListLaws.{some, separated}
use Rattle.grammar.proofs.Columns.{block, block_ends}
use Rattle.grammar.proofs.Links.{linked, linked_ends}
use Rattle.grammar.proofs.Ends as ends
use Rattle.grammar.proofs.Ends.{Ends, Last, behind}
use Rattle.expr_grammar.proofs.GuardLaws.{Closed, lambda_closed, if_closed, guards_closed, let_closed, case_closed, chain_closed}
use Rattle.grammar.proofs.Follows as follows
use Rattle.grammar.proofs.Follows.{Follows, either_two}
use Rattle.pattern_parser.proofs.TypeReadings as type_readings
use Rattle.pattern_parser.proofs.TypeReadings.{type_reads}
use Rattle.pattern_parser.proofs.PatternReadings as pattern_readings
use Rattle.pattern_parser.proofs.PatternReadings.{cons_reads}

-- ---- operators

pub sign_reads : Reading g.sign m.sign false signs_begin []
unfolding m.sign same_terminal
sign_reads = within (either (name k.Operator) (either (name k.Minus) (name k.Cons) refl) refl) refl refl

pub any_lower_reads : Reading (rule.◌∣◌ (rule.name k.Lower) (rule.name k.QualifiedLower)) m.any_lower false (k.Lower ∷ k.QualifiedLower ∷ []) []
unfolding m.any_lower same_terminal
any_lower_reads = within (either (name k.Lower) (name k.QualifiedLower) refl) refl refl

pub quoted_reads : Reading g.quoted m.quoted false (k.Backtick ∷ []) []
unfolding m.quoted same_terminal
quoted_reads = within (by _ (seq (mark k.Backtick) (by _ (seq any_lower_reads (mark k.Backtick) refl)) refl)) refl refl

pub operator_reads : Reading g.operator m.operator false operators_begin []
unfolding m.operator same_terminal
operator_reads = within (by _ (at (either sign_reads quoted_reads refl))) refl refl

-- ---- atoms without parts

pub int_reads : Reading g.int m.int false (k.Int ∷ []) []
unfolding m.int same_terminal
int_reads = within (by _ (at (spelled k.Int int_value))) refl refl

pub char_reads : Reading g.char_ m.char_ false (k.Char ∷ []) []
unfolding m.char_ same_terminal
char_reads = within (by _ (at (spelled k.Char char_value))) refl refl

pub text_reads : Reading g.text m.text false (k.Text ∷ []) []
unfolding m.text same_terminal
text_reads = within (by _ (at (spelled k.Text text_value))) refl refl

pub variable_reads : Reading g.variable m.variable false (k.Lower ∷ k.QualifiedLower ∷ []) []
unfolding m.variable same_terminal
variable_reads = within (by _ (at any_lower_reads)) refl refl

pub constructor_reads : Reading g.constructor m.constructor false (k.Upper ∷ []) []
unfolding m.constructor same_terminal
constructor_reads = within (by _ (at (name k.Upper))) refl refl

pub field_function_reads : Reading g.field_function m.field_function false (k.FieldFunction ∷ []) []
unfolding m.field_function same_terminal
field_function_reads = within (by _ (at (spelled k.FieldFunction label_of))) refl refl

pub operator_name_reads : Reading g.operator_name m.operator_name false signs_begin []
unfolding m.operator_name same_terminal
operator_name_reads = within (by _ (by _ (seq sign_reads (mark k.RightParen) refl))) refl refl

-- a sign stands alone
sign_alone : Follows g.sign signs_begin true []
sign_alone = follows.either (follows.one k.Operator _) (follows.either (follows.one k.Minus _) (follows.one k.Cons _))

pub operator_name_closes : Follows g.operator_name signs_begin false (k.RightParen ∷ [])
operator_name_closes = follows.by _ (follows.by _ (follows.seq sign_reads sign_alone (mark k.RightParen)))

pub commas_read : Reading (rule.only (λ commas. nat_le (length commas) 8) (rule.some (rule.mark k.Comma))) m.commas false (k.Comma ∷ []) (k.Comma ∷ [])
unfolding m.commas same_terminal
commas_read = within (only _ (some (mark k.Comma) refl)) refl refl

pub tuple_maker_reads : Reading g.tuple_maker m.tuple_maker false (k.Comma ∷ []) []
unfolding m.tuple_maker same_terminal
tuple_maker_reads = within (by _ (by _ (seq commas_read (mark k.RightParen) refl))) refl refl

-- ---- what may go on

-- with an application, with an expression that doesn't end in a multi-way `if`, and with any expression
abbrev pub application_goes_on : List Terminal
application_goes_on = k.Access ∷ atoms_begin

abbrev pub closed_goes_on : List Terminal
closed_goes_on = k.Operator ∷ k.Minus ∷ k.Cons ∷ k.Backtick ∷ k.Underscore ∷ application_goes_on

abbrev pub goes_on : List Terminal
goes_on = k.Bar ∷ closed_goes_on

-- Beside the readings of an expression and an atom: what stands behind a `-` that begins an expression, and behind a name that begins an atom.
module _ (depth : ℕ) {W I : Rule Expr} {w i : Parser Expr} (r : Reading W w false expressions_begin goes_on) (closed : Ends W w Closed closed_goes_on)
    (signed : Follows W signs_begin false atoms_begin) (inner : Reading I i false atoms_begin (k.Access ∷ []))
    (named : Follows I (k.Lower ∷ []) true (k.Access ∷ [])) where
  abbrev pub G : g.Below
  G = record { depth = depth; whole = W; atom = I }

  abbrev pub M : m.Below
  M = record { depth = depth; whole = w; atom = i }

  pub pattern_reads : Reading (g.pattern_ G) (m.pattern_ M) false patterns_begin pattern_readings.goes_on
  pattern_reads = pattern_readings.whole_reads (cons_reads depth)

  pub parameter_reads : Reading (g.parameter G) (m.parameter M) false patterns_begin []
  parameter_reads = pattern_readings.part_reads (cons_reads depth)

  pub parameters_read : Reading (rule.many (g.parameter G)) (reader.many patterns_begin (m.parameter M)) true patterns_begin patterns_begin
  unfolding same_terminal
  parameters_read = within (many parameter_reads refl) refl refl

  pub some_parameters_read : Reading (rule.some (g.parameter G)) (lists.some patterns_begin (m.parameter M)) false patterns_begin patterns_begin
  unfolding same_terminal
  some_parameters_read = within (some parameter_reads refl) refl refl

  pub compound_reads : Reading (g.compound G) (m.compound M) false (k.LeftParen ∷ k.LeftBrace ∷ []) []
  unfolding m.compound same_terminal
  compound_reads = within (either (only (λ x. not (is_brackets x)) (pattern_readings.brackets_read (cons_reads depth))) pattern_readings.labels_read refl) refl refl

  pub more_reads : Reading (rule.many (rule.◌▷◌ (rule.mark k.Comma) W)) (m.more M) true (k.Comma ∷ []) (k.Comma ∷ goes_on)
  unfolding same_terminal
  more_reads = within (many (by _ (seq (mark k.Comma) r refl)) refl) refl refl

  pub any_parts_read : Reading (rule.only at_most_nine (rule.◌∣◌ (rule.separated W) (rule.nothing []))) (m.any_parts M) true expressions_begin (k.Comma ∷ expressions_begin ++ goes_on)
  unfolding m.any_parts same_terminal
  any_parts_read = within (only at_most_nine (either (separated r refl refl) (nothing []) refl)) refl refl

  pub parts_read : Reading (g.parts G) (m.parts M) false (k.RightParen ∷ expressions_begin) []
  unfolding m.parts same_terminal
  parts_read = within (by _ (by _ (seq any_parts_read (mark k.RightParen) refl))) refl refl

  -- an expression in brackets that begins with a sign goes on with an atom
  parts_signed : Follows (g.parts G) signs_begin false atoms_begin
  unfolding same_terminal
  parts_signed =
      follows.within (follows.by _ (follows.by _ (follows.seq_any (follows.only at_most_nine (follows.either (follows.by _ (follows.seq r signed more_reads)) (follows.nothing [])))
      (mark k.RightParen) refl))) refl

  pub inside_brackets_read : Reading (rule.◌∣◌ g.operator_name (rule.◌∣◌ g.tuple_maker (g.parts G))) (m.inside_brackets M) false
      (k.Comma ∷ k.RightParen ∷ k.Operator ∷ k.Cons ∷ expressions_begin) []
  unfolding m.inside_brackets same_terminal
  inside_brackets_read =
      within (either_two signs_begin (k.RightParen ∷ []) operator_name_reads operator_name_closes (either tuple_maker_reads parts_read refl)
      (follows.either (follows.never tuple_maker_reads refl) parts_signed) refl refl) refl refl

  pub brackets_read : Reading (g.brackets G) (m.brackets M) false (k.LeftParen ∷ []) []
  unfolding m.brackets same_terminal
  brackets_read = within (by _ (at (by _ (seq (mark k.LeftParen) inside_brackets_read refl)))) refl refl

  pub behind_low_reads : Reading (g.behind_low G) (m.behind_low M) false (k.DotDot ∷ []) goes_on
  unfolding m.behind_low same_terminal
  behind_low_reads = within (by _ (by _ (seq (mark k.DotDot) r refl))) refl refl

  pub behind_part_reads : Reading (g.behind_part G) (m.behind_part M) true (k.Comma ∷ []) (k.Comma ∷ goes_on)
  unfolding m.behind_part same_terminal
  behind_part_reads = within (by _ more_reads) refl refl

  pub inside_list_reads : Reading (g.inside_list G) (m.inside_list M) true expressions_begin (k.DotDot ∷ k.Comma ∷ expressions_begin ++ goes_on)
  unfolding m.inside_list same_terminal
  inside_list_reads = within (either (by _ (seq r (either behind_low_reads behind_part_reads refl) refl)) (nothing _) refl) refl refl

  pub list_reads : Reading (g.list G) (m.list M) false (k.LeftBracket ∷ []) []
  unfolding m.list same_terminal
  list_reads = within (by _ (at (by _ (seq (mark k.LeftBracket) (by _ (seq inside_list_reads (mark k.RightBracket) refl)) refl)))) refl refl

  -- ---- records

  pub set_reads : (symbol : Terminal) → Reading (g.set G symbol) (m.set M symbol) false (k.Lower ∷ []) goes_on
  unfolding m.set same_terminal
  set_reads symbol = within (by _ (at (seq (name k.Lower) (by _ (seq (mark symbol) r refl)) refl))) refl refl

  pub sets_read : (symbol : Terminal) → Reading (rule.separated (g.set G symbol)) (m.sets M symbol) false (k.Lower ∷ []) (k.Comma ∷ goes_on)
  unfolding same_terminal
  sets_read symbol = within (separated (set_reads symbol) refl refl) refl refl

  pub fields_read : Reading (g.fields G) (m.fields M) false (k.Lower ∷ []) (k.Comma ∷ goes_on)
  unfolding m.fields same_terminal
  fields_read = within (by _ (sets_read k.Equals)) refl refl

  pub extended_reads : Reading (g.extended G) (m.extended M) false (k.Lower ∷ []) (k.Comma ∷ goes_on)
  unfolding m.extended same_terminal
  extended_reads = within (by _ (sets_read k.Equals)) refl refl

  pub updated_reads : Reading (g.updated G) (m.updated M) false (k.Lower ∷ []) (k.Comma ∷ goes_on)
  unfolding m.updated same_terminal
  updated_reads = within (by _ (sets_read k.LeftArrow)) refl refl

  -- a name with the token behind it
  sets_with : (symbol : Terminal) → Follows (rule.separated (g.set G symbol)) (k.Lower ∷ []) false (symbol ∷ [])
  unfolding same_terminal
  sets_with symbol =
      follows.by _ (follows.seq (set_reads symbol) (follows.by _ (follows.at (follows.seq (name k.Lower) (follows.one k.Lower _) (by _ (seq (mark symbol) r refl)))))
      (many (by _ (seq (mark k.Comma) (set_reads symbol) refl)) refl))

  pub behind_bar_reads : Reading (rule.◌▷◌ (rule.mark k.Bar) (rule.◌∣◌ (g.extended G) (g.updated G))) (m.behind_bar M) false (k.Bar ∷ []) (k.Comma ∷ goes_on)
  unfolding m.behind_bar same_terminal
  behind_bar_reads =
      within (by _ (seq (mark k.Bar)
      (either_two (k.Lower ∷ []) (k.Equals ∷ []) extended_reads (follows.by _ (sets_with k.Equals)) updated_reads (follows.by _ (sets_with k.LeftArrow)) refl refl) refl)) refl refl

  pub new_fields_read : Reading (g.new_fields G) (m.new_fields M) true (k.Bar ∷ []) (k.Comma ∷ goes_on)
  unfolding m.new_fields same_terminal
  new_fields_read = within (either (by _ (seq (mark k.Bar) (sets_read k.Equals) refl)) (nothing []) refl) refl refl

  pub removed_reads : Reading (g.removed G) (m.removed M) false (k.Minus ∷ []) (k.Comma ∷ goes_on)
  unfolding m.removed same_terminal
  removed_reads = within (by _ (by _ (seq (mark k.Minus) (seq (name k.Lower) new_fields_read refl) refl))) refl refl

  pub over_record_reads : Reading (g.over_record G) (m.over_record M) false atoms_begin (k.Comma ∷ goes_on)
  unfolding m.over_record same_terminal
  over_record_reads = within (by _ (seq inner (either behind_bar_reads removed_reads refl) refl)) refl refl

  over_record_named : Follows (g.over_record G) (k.Lower ∷ []) false (k.Access ∷ k.Bar ∷ k.Minus ∷ [])
  unfolding same_terminal
  over_record_named = follows.within (follows.by _ (follows.seq inner named (either behind_bar_reads removed_reads refl))) refl

  pub filled_braces_read : Reading (rule.◌∣◌ (g.fields G) (g.over_record G)) (m.filled_braces M) false atoms_begin (k.Comma ∷ goes_on)
  unfolding m.filled_braces same_terminal
  filled_braces_read =
      within (either_two (k.Lower ∷ []) (k.Equals ∷ []) fields_read (follows.by _ (sets_with k.Equals)) over_record_reads over_record_named refl refl) refl refl

  pub inside_braces_read : Reading (g.inside_braces G) (m.inside_braces M) true atoms_begin (k.Comma ∷ goes_on)
  unfolding m.inside_braces same_terminal
  inside_braces_read = within (either filled_braces_read (nothing _) refl) refl refl

  pub braces_read : Reading (g.braces G) (m.braces M) false (k.LeftBrace ∷ []) []
  unfolding m.braces same_terminal
  braces_read = within (by _ (at (by _ (seq (mark k.LeftBrace) (by _ (seq inside_braces_read (mark k.RightBrace) refl)) refl)))) refl refl

  -- ---- atoms and applications

  pub primary_reads : Reading (g.primary G) (m.primary M) false atoms_begin []
  unfolding m.primary same_terminal
  primary_reads =
      within (either int_reads (either char_reads (either text_reads (either variable_reads (either constructor_reads (either field_function_reads
      (either brackets_read (either list_reads braces_read refl) refl) refl) refl) refl) refl) refl) refl) refl refl

  primary_named : Follows (g.primary G) (k.Lower ∷ []) true []
  unfolding same_terminal
  primary_named =
      follows.either (follows.never int_reads refl) (follows.either (follows.never char_reads refl) (follows.either (follows.never text_reads refl)
      (follows.either (follows.by _ (follows.at (follows.either (follows.one k.Lower _) (follows.one k.QualifiedLower _))))
      (follows.either (follows.never constructor_reads refl) (follows.either (follows.never field_function_reads refl)
      (follows.either (follows.never brackets_read refl) (follows.either (follows.never list_reads refl) (follows.never braces_read refl))))))))

  pub accesses_read : Reading (rule.only (λ labels. nat_le (length labels) depth) (rule.many (g.access G))) (m.accesses M) true (k.Access ∷ []) (k.Access ∷ [])
  unfolding m.accesses same_terminal
  accesses_read = within (only _ (many (spelled k.Access label_of) refl)) refl refl

  pub atom_reads : Reading (g.atom G) (m.atom M) false atoms_begin (k.Access ∷ [])
  unfolding m.atom same_terminal
  atom_reads = within (by _ (at (seq primary_reads accesses_read refl))) refl refl

  -- an atom that begins with a name is the name, or goes on with an access
  pub atom_named : Follows (g.atom G) (k.Lower ∷ []) true (k.Access ∷ [])
  atom_named = follows.by _ (follows.at (follows.seq primary_reads primary_named accesses_read))

  pub application_reads : Reading (g.application G) (m.application M) false atoms_begin application_goes_on
  unfolding m.application same_terminal
  application_reads = within (by _ (at (seq atom_reads (many atom_reads refl) refl))) refl refl

  pub negation_reads : Reading (g.negation G) (m.negation M) false (k.Minus ∷ []) application_goes_on
  unfolding m.negation same_terminal
  negation_reads = within (by _ (at (by _ (seq (mark k.Minus) application_reads refl)))) refl refl

  negation_signed : Follows (g.negation G) signs_begin false atoms_begin
  negation_signed = follows.by _ (follows.at (follows.by _ (follows.seq (mark k.Minus) (follows.one k.Minus _) application_reads)))

  pub operand_reads : Reading (g.operand G) (m.operand M) false operands_begin application_goes_on
  unfolding m.operand same_terminal
  operand_reads = within (either negation_reads application_reads refl) refl refl

  operand_signed : Follows (g.operand G) signs_begin false atoms_begin
  unfolding same_terminal
  operand_signed = follows.either negation_signed (follows.never application_reads refl)

  -- ---- the forms that take all behind them

  pub lambda_reads : Reading (g.lambda G) (m.lambda M) false (k.Backslash ∷ []) goes_on
  unfolding m.lambda same_terminal
  lambda_reads =
      within (by _ (at (by _ (seq (mark k.Backslash) (seq some_parameters_read (by _ (seq (mark k.Arrow) r refl)) refl) refl)))) refl refl

  pub two_way_reads : Reading (g.two_way G) (m.two_way M) false expressions_begin goes_on
  unfolding m.two_way same_terminal
  two_way_reads = within (by _ (seq r (seq (by _ (seq (mark k.Then) r refl)) (by _ (seq (mark k.Else) r refl)) refl) refl)) refl refl

  pub guard_reads : Reading (g.guard G) (m.guard M) false (k.Bar ∷ []) closed_goes_on
  unfolding m.guard same_terminal
  guard_reads =
      within (seq (by _ (seq (mark k.Bar) r refl)) (by _ (seq (mark k.Arrow) (ends.only (λ x. not (ends_in_guards x)) r closed) refl)) refl) refl refl

  pub multi_way_reads : Reading (g.multi_way G) (m.multi_way M) false (k.Bar ∷ []) goes_on
  unfolding m.multi_way same_terminal
  multi_way_reads = within (by _ (some guard_reads refl)) refl refl

  pub conditional_reads : Reading (g.conditional G) (m.conditional M) false (k.If ∷ []) goes_on
  unfolding m.conditional same_terminal
  conditional_reads = within (by _ (at (by _ (seq (mark k.If) (either two_way_reads multi_way_reads refl) refl)))) refl refl

  -- ---- definitions

  pub annotated_reads : Reading (g.annotated G) (m.annotated M) false (k.Colon ∷ []) type_readings.go_on
  unfolding m.annotated same_terminal
  annotated_reads = within (by _ (by _ (seq (mark k.Colon) (type_reads depth) refl))) refl refl

  pub defined_reads : Reading (g.defined G) (m.defined M) false (k.Equals ∷ patterns_begin) goes_on
  unfolding m.defined same_terminal
  defined_reads = within (by _ (seq parameters_read (by _ (seq (mark k.Equals) r refl)) refl)) refl refl

  pub named_definition_reads : Reading (g.named_definition G) (m.named_definition M) false (k.Lower ∷ []) (k.Arrow ∷ goes_on)
  unfolding m.named_definition same_terminal
  named_definition_reads = within (by _ (at (seq (name k.Lower) (either annotated_reads defined_reads refl) refl))) refl refl

  pub pattern_definition_reads : Reading (g.pattern_definition G) (m.pattern_definition M) false (k.LeftParen ∷ k.LeftBrace ∷ []) goes_on
  unfolding m.pattern_definition same_terminal
  pattern_definition_reads = within (by _ (at (seq compound_reads (by _ (seq (mark k.Equals) r refl)) refl))) refl refl

  pub definition_reads : Reading (g.definition G) (m.definition M) false definitions_begin (k.Arrow ∷ goes_on)
  unfolding m.definition same_terminal
  definition_reads = within (either named_definition_reads pattern_definition_reads refl) refl refl

  pub definitions_read : Reading (rule.only annotations_stand (rule.block (g.definition G))) (m.definitions M) false definitions_begin (k.Arrow ∷ goes_on)
  unfolding m.definitions same_terminal
  definitions_read = within (only annotations_stand (block definition_reads)) refl refl

  pub let_in_reads : Reading (g.let_in G) (m.let_in M) false (k.Let ∷ []) goes_on
  unfolding m.let_in same_terminal
  let_in_reads = within (by _ (at (by _ (seq (mark k.Let) (seq definitions_read (by _ (seq (mark k.In) r refl)) refl) refl)))) refl refl

  pub branch_reads : Reading (g.branch G) (m.branch M) false patterns_begin goes_on
  unfolding m.branch same_terminal
  branch_reads = within (seq pattern_reads (by _ (seq (mark k.Arrow) r refl)) refl) refl refl

  pub case_of_reads : Reading (g.case_of G) (m.case_of M) false (k.Case ∷ []) goes_on
  unfolding m.case_of same_terminal
  case_of_reads = within (by _ (at (by _ (seq (mark k.Case) (seq r (by _ (seq (mark k.Of) (block branch_reads) refl)) refl) refl)))) refl refl

  pub last_form_reads : Reading (g.last_form G) (m.last_form M) false last_forms_begin goes_on
  unfolding m.last_form same_terminal
  last_form_reads = within (either lambda_reads (either conditional_reads (either let_in_reads case_of_reads refl) refl) refl) refl refl

  -- ---- the whole

  pub links_read : Reading (rule.linked g.operator (g.operand G) (g.last_form G)) (m.links M) true operators_begin goes_on
  unfolding m.links same_terminal
  links_read = within (linked operator_reads operand_reads last_form_reads refl refl refl refl) refl refl

  pub chain_reads : Reading (g.chain G) (m.chain M) false operands_begin goes_on
  unfolding m.chain same_terminal
  chain_reads = within (by _ (at (seq operand_reads links_read refl))) refl refl

  pub level_reads : Reading (g.level G) (m.level M) false expressions_begin goes_on
  unfolding m.level same_terminal
  level_reads = within (either last_form_reads chain_reads refl) refl refl

  -- an expression that begins with a sign goes on with an atom
  pub level_signed : Follows (g.level G) signs_begin false atoms_begin
  unfolding same_terminal
  level_signed = follows.either (follows.never last_form_reads refl) (follows.by _ (follows.at (follows.seq operand_reads operand_signed links_read)))

  -- ---- with fewer terminals that go on, where the expression doesn't end in a multi-way `if`

  lambda_ends : Ends (g.lambda G) (m.lambda M) Closed closed_goes_on
  unfolding m.lambda same_terminal
  lambda_ends =
      ends.by {C = Closed} _ (ends.when {B = λ x. Closed x.1.1} (λ x h. lambda_closed x.0 x.1.0 x.1.1 h)
      (ends.at {B = λ x. Closed x.1} (ends.after {C = λ x. Closed x.1} k.Backslash (seq some_parameters_read (behind k.Arrow r) refl)
      (ends.seq {C = Closed} some_parameters_read (behind k.Arrow r) (ends.after k.Arrow r closed) refl))))

  -- what stands for a tree at some place
  abbrev ClosedSomewhere : (At → Expr) → Type 0
  ClosedSomewhere x = (at : At) × Closed (x at)

  two_way_ends : Ends (g.two_way G) (m.two_way M) ClosedSomewhere closed_goes_on
  unfolding m.two_way same_terminal
  two_way_ends =
      ends.by {C = ClosedSomewhere} _ (ends.when {B = λ x. Closed x.1.1} (λ x h. if_closed h.0 x.0 x.1.0 x.1.1 h.1)
      (ends.seq {C = λ x. Closed x.1} r (seq (behind k.Then r) (behind k.Else r) refl)
      (ends.seq {C = Closed} (behind k.Then r) (behind k.Else r) (ends.after k.Else r closed) refl) refl))

  multi_way_ends : Ends (g.multi_way G) (m.multi_way M) ClosedSomewhere closed_goes_on
  unfolding m.multi_way
  multi_way_ends = ends.by {C = ClosedSomewhere} _ (ends.never (λ x h. guards_closed h.0 x h.1))

  conditional_ends : Ends (g.conditional G) (m.conditional M) Closed closed_goes_on
  unfolding m.conditional same_terminal
  conditional_ends =
      ends.within (ends.by {C = Closed} _ (ends.when {B = λ x. ClosedSomewhere x.1} (λ x h. (x.0, h))
      (ends.at {B = ClosedSomewhere} (ends.after {C = ClosedSomewhere} k.If (either two_way_reads multi_way_reads refl)
      (ends.either two_way_reads two_way_ends multi_way_reads multi_way_ends refl))))) refl

  let_in_ends : Ends (g.let_in G) (m.let_in M) Closed closed_goes_on
  unfolding m.let_in same_terminal
  let_in_ends =
      ends.by {C = Closed} _ (ends.when {B = λ x. Closed x.1.1} (λ x h. let_closed x.0 x.1.0 x.1.1 h)
      (ends.at {B = λ x. Closed x.1} (ends.after {C = λ x. Closed x.1} k.Let (seq definitions_read (behind k.In r) refl)
      (ends.seq {C = Closed} definitions_read (behind k.In r) (ends.after k.In r closed) refl))))

  abbrev LastClosed : List (Pattern × Expr) → Type 0
  LastClosed = Last (λ branch. Closed branch.1)

  branch_ends : Ends (g.branch G) (m.branch M) (λ branch. Closed branch.1) closed_goes_on
  unfolding m.branch same_terminal
  branch_ends = ends.seq {C = Closed} pattern_reads (behind k.Arrow r) (ends.after k.Arrow r closed) refl

  case_of_ends : Ends (g.case_of G) (m.case_of M) Closed closed_goes_on
  unfolding m.case_of same_terminal
  case_of_ends =
      ends.within (ends.by {C = Closed} _ (ends.when {B = λ x. LastClosed x.1.1} (λ x h. case_closed x.0 x.1.0 x.1.1 h)
      (ends.at {B = λ x. LastClosed x.1} (ends.after {C = λ x. LastClosed x.1} k.Case (seq r (behind k.Of (block branch_reads)) refl)
      (ends.seq {C = LastClosed} r (behind k.Of (block branch_reads)) (ends.after k.Of (block branch_reads) (block_ends branch_reads branch_ends)) refl))))) refl

  last_form_ends : Ends (g.last_form G) (m.last_form M) Closed closed_goes_on
  unfolding m.last_form same_terminal
  last_form_ends =
      ends.within (ends.either lambda_reads lambda_ends (either conditional_reads (either let_in_reads case_of_reads refl) refl)
      (ends.either conditional_reads conditional_ends (either let_in_reads case_of_reads refl) (ends.either let_in_reads let_in_ends case_of_reads case_of_ends refl) refl) refl) refl

  abbrev LinkClosed : List (Operator × Expr) → Type 0
  LinkClosed = Last (λ link. Closed link.1)

  links_end : Ends (rule.linked g.operator (g.operand G) (g.last_form G)) (m.links M) LinkClosed closed_goes_on
  unfolding m.links same_terminal
  links_end = ends.within (linked_ends operator_reads operand_reads last_form_reads refl refl refl refl last_form_ends) refl

  chain_ends : Ends (g.chain G) (m.chain M) Closed closed_goes_on
  unfolding m.chain same_terminal
  chain_ends =
      ends.within (ends.by {C = Closed} _ (ends.when {B = λ x. LinkClosed x.1.1} (λ x h. chain_closed x.0 x.1.0 x.1.1 h)
      (ends.at {B = λ x. LinkClosed x.1} (ends.seq_any {C = LinkClosed} operand_reads links_read links_end refl)))) refl

  pub level_ends : Ends (g.level G) (m.level M) Closed closed_goes_on
  unfolding m.level same_terminal
  level_ends = ends.within (ends.either last_form_reads last_form_ends chain_reads chain_ends refl) refl

-- what is known of expressions and atoms of one depth
pub record TreeReads (depth : ℕ) : Type 0 where
  pub whole : Reading (g.tree_at false depth) (m.tree_at false depth) false expressions_begin goes_on
  pub closed : Ends (g.tree_at false depth) (m.tree_at false depth) Closed closed_goes_on
  pub signed : Follows (g.tree_at false depth) signs_begin false atoms_begin
  pub inner : Reading (g.tree_at true depth) (m.tree_at true depth) false atoms_begin (k.Access ∷ [])
  pub named : Follows (g.tree_at true depth) (k.Lower ∷ []) true (k.Access ∷ [])

pub tree_reads : (depth : ℕ) → TreeReads depth
unfolding g.tree_at m.tree_at
tree_reads zero = record {
  whole = record { sound = record { reads = λ ts rest x e. cc }; complete = λ us rest x w s. absurd w; begins = λ us x w. absurd w };
  closed = record { complete = λ us rest x w b s. absurd w };
  signed = record { second = λ us x w h. absurd w };
  inner = record { sound = record { reads = λ ts rest x e. cc }; complete = λ us rest x w s. absurd w; begins = λ us x w. absurd w };
  named = record { second = λ us x w h. absurd w };
}
tree_reads (suc depth) =
    let t = tree_reads depth in
    let l = level_reads depth t.whole t.closed t.signed t.inner t.named in
    let c = level_ends depth t.whole t.closed t.signed t.inner t.named in
    let s = level_signed depth t.whole t.closed t.signed t.inner t.named in
    let a = atom_reads depth t.whole t.closed t.signed t.inner t.named in
    let n = atom_named depth t.whole t.closed t.signed t.inner t.named in record {
      whole = record { sound = record { reads = l.sound.reads }; complete = l.complete; begins = l.begins };
      closed = record { complete = c.complete };
      signed = record { second = s.second };
      inner = record { sound = record { reads = a.sound.reads }; complete = a.complete; begins = a.begins };
      named = record { second = n.second };
    }
