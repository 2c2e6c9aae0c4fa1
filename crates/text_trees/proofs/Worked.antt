-- Worked texts, by computation.
use Rattle.std.proofs.Common.{ℕ, List, [], ◌∷◌, refl}
use lib.Utf8.{encode}
use Rattle.std.specs.Prelude.{codes, Some, None}
use Rattle.elm_base.specs.Lexemes.{Lexeme}
use Rattle.elm_base.specs.declared.token.TokenKind.{TokenKind}
use Rattle.elm_base.specs.declared.token.TokenKind.TheVariants as kind
use Rattle.elm_base.specs.declared.tree.TypeTree.{TypeTree}
use Rattle.elm_base.specs.declared.tree.TypeTree.TheVariants as t
use Rattle.elm_base.specs.declared.tree.Pattern.{Pattern}
use Rattle.elm_base.specs.declared.tree.Pattern.TheVariants as p
use Rattle.elm_base.specs.declared.tree.Expr.{Expr}
use Rattle.elm_base.specs.declared.tree.Expr.TheVariants as e
use Rattle.layout_lexer.specs.Chars.{class_of, is_in}
use Rattle.layout_lexer.specs.Places.{place_after}
use Rattle.layout_lexer.specs.Pieces.{piece, spelling, name, operator}
use Rattle.layout_lexer.specs.Cuts.{Part}
use Rattle.layout_lexer.specs.Tokens.{Tokens}
use Rattle.layout_lexer.proofs.Laws.{scans_tokens}
use Rattle.grammar.specs.Terminals.{terminal_of, same_terminal}
use Rattle.grammar.specs.Reader.{spelled, here, many, linked}
use Rattle.text_trees.specs.Spells.{first_line}
use Rattle.pattern_parser.specs.Types.{DerivesType}
use Rattle.pattern_parser.specs.TypeReader as types
use Rattle.pattern_parser.proofs.TypeLaws as type_laws
use Rattle.pattern_parser.specs.Patterns.{DerivesPattern}
use Rattle.pattern_parser.specs.PatternReader as patterns
use Rattle.pattern_parser.proofs.PatternLaws as pattern_laws
use Rattle.grammar.specs.Spelling.{label_of}
use Rattle.expr_grammar.specs.Expressions.{DerivesExpr}
use Rattle.expr_grammar.specs.ExprReader as exprs
use Rattle.expr_grammar.proofs.ExprLaws as expr_laws

-- a token of one line
abbrev on_line : TokenKind → List ℕ → ℕ → Lexeme
on_line kind text column = record { kind = kind; text = text; at = first_line column }

abbrev token : TokenKind → List ℕ → Part
token kind text = record { kind = Some kind; text = text }

abbrev space : Part
space = record { kind = None; text = 32 ∷ [] }

abbrev pub arrow_tokens : List Lexeme
arrow_tokens = on_line kind.Lower (codes "a") 1 ∷ on_line kind.Symbol (codes "->") 3 ∷ on_line kind.Lower (codes "b") 6 ∷ []

pub arrow_is_cut : Tokens (codes "a -> b") arrow_tokens
unfolding encode piece spelling name operator class_of is_in place_after
arrow_is_cut = scans_tokens (codes "a -> b") arrow_tokens (record {
  utf8 = (codes "a -> b", (refl, refl));
  no_tab = refl;
  parts = token kind.Lower (codes "a") ∷ space ∷ token kind.Symbol (codes "->") ∷ space ∷ token kind.Lower (codes "b") ∷ [];
  cut = (codes " -> b", refl, refl, (codes "-> b", refl, refl, (codes " b", refl, refl, (codes "b", refl, refl, ([], refl, refl, refl)))));
  same = refl;
})

abbrev pub arrow_tree : TypeTree
arrow_tree = t.Arrow (first_line 1) (t.Variable (first_line 1) (codes "a")) (t.Variable (first_line 6) (codes "b"))

pub arrow_derives : DerivesType arrow_tokens arrow_tree
unfolding types.type_at types.level types.operand types.applied types.other types.variable types.target terminal_of same_terminal spelled here many
arrow_derives = let d = type_laws.decides 1 in d.sound arrow_tokens [] arrow_tree refl refl

abbrev pub cons_tokens : List Lexeme
cons_tokens = on_line kind.Lower (codes "x") 1 ∷ on_line kind.Operator (codes "::") 3 ∷ on_line kind.Lower (codes "y") 6 ∷ []

pub cons_is_cut : Tokens (codes "x :: y") cons_tokens
unfolding encode piece spelling name operator class_of is_in place_after
cons_is_cut = scans_tokens (codes "x :: y") cons_tokens (record {
  utf8 = (codes "x :: y", (refl, refl));
  no_tab = refl;
  parts = token kind.Lower (codes "x") ∷ space ∷ token kind.Operator (codes "::") ∷ space ∷ token kind.Lower (codes "y") ∷ [];
  cut = (codes " :: y", refl, refl, (codes ":: y", refl, refl, (codes " y", refl, refl, (codes "y", refl, refl, ([], refl, refl, refl)))));
  same = refl;
})

abbrev pub cons_tree : Pattern
cons_tree = p.Cons (first_line 1) (p.Variable (first_line 1) (codes "x")) (p.Variable (first_line 6) (codes "y"))

pub cons_derives : DerivesPattern cons_tokens cons_tree
unfolding patterns.cons_at patterns.whole patterns.level patterns.operand patterns.other patterns.variable patterns.tail patterns.alias terminal_of same_terminal spelled here many
cons_derives = let d = pattern_laws.decides 1 in d.sound cons_tokens [] cons_tree refl refl

abbrev pub access_tokens : List Lexeme
access_tokens = on_line kind.Lower (codes "f") 1 ∷ on_line kind.Access (codes ".x") 2 ∷ []

pub access_is_cut : Tokens (codes "f.x") access_tokens
unfolding encode piece spelling name operator class_of is_in place_after
access_is_cut = scans_tokens (codes "f.x") access_tokens (record {
  utf8 = (codes "f.x", (refl, refl));
  no_tab = refl;
  parts = token kind.Lower (codes "f") ∷ token kind.Access (codes ".x") ∷ [];
  cut = (codes ".x", refl, refl, ([], refl, refl, refl));
  same = refl;
})

abbrev pub access_tree : Expr
access_tree = e.Access (first_line 1) (e.Variable (first_line 1) (codes "f")) (codes "x")

pub access_derives : DerivesExpr access_tokens access_tree
unfolding exprs.sign exprs.any_lower exprs.quoted exprs.operator exprs.int exprs.char_ exprs.text exprs.variable exprs.constructor exprs.field_function exprs.operator_name exprs.commas exprs.tuple_maker exprs.compound exprs.any_parts exprs.parts exprs.inside_brackets exprs.brackets exprs.behind_low exprs.behind_part exprs.inside_list exprs.list exprs.set exprs.fields exprs.extended exprs.updated exprs.behind_bar exprs.new_fields exprs.removed exprs.over_record exprs.filled_braces exprs.inside_braces exprs.braces exprs.primary exprs.accesses exprs.atom exprs.application exprs.negation exprs.operand exprs.lambda exprs.two_way exprs.guard exprs.multi_way exprs.conditional exprs.annotated exprs.defined exprs.named_definition exprs.pattern_definition exprs.definition exprs.definitions exprs.let_in exprs.branch exprs.case_of exprs.last_form exprs.links exprs.chain exprs.level exprs.tree_at terminal_of same_terminal spelled here many linked label_of
access_derives = let d = expr_laws.decides 1 in d.sound access_tokens [] access_tree refl refl

abbrev pub argument_tokens : List Lexeme
argument_tokens = on_line kind.Lower (codes "f") 1 ∷ on_line kind.FieldFunction (codes ".x") 3 ∷ []

pub argument_is_cut : Tokens (codes "f .x") argument_tokens
unfolding encode piece spelling name operator class_of is_in place_after
argument_is_cut = scans_tokens (codes "f .x") argument_tokens (record {
  utf8 = (codes "f .x", (refl, refl));
  no_tab = refl;
  parts = token kind.Lower (codes "f") ∷ space ∷ token kind.FieldFunction (codes ".x") ∷ [];
  cut = (codes " .x", refl, refl, (codes ".x", refl, refl, ([], refl, refl, refl)));
  same = refl;
})

abbrev pub argument_tree : Expr
argument_tree = e.Call (first_line 1) (e.Variable (first_line 1) (codes "f")) (e.FieldFunction (first_line 3) (codes "x") ∷ [])

pub argument_derives : DerivesExpr argument_tokens argument_tree
unfolding exprs.sign exprs.any_lower exprs.quoted exprs.operator exprs.int exprs.char_ exprs.text exprs.variable exprs.constructor exprs.field_function exprs.operator_name exprs.commas exprs.tuple_maker exprs.compound exprs.any_parts exprs.parts exprs.inside_brackets exprs.brackets exprs.behind_low exprs.behind_part exprs.inside_list exprs.list exprs.set exprs.fields exprs.extended exprs.updated exprs.behind_bar exprs.new_fields exprs.removed exprs.over_record exprs.filled_braces exprs.inside_braces exprs.braces exprs.primary exprs.accesses exprs.atom exprs.application exprs.negation exprs.operand exprs.lambda exprs.two_way exprs.guard exprs.multi_way exprs.conditional exprs.annotated exprs.defined exprs.named_definition exprs.pattern_definition exprs.definition exprs.definitions exprs.let_in exprs.branch exprs.case_of exprs.last_form exprs.links exprs.chain exprs.level exprs.tree_at terminal_of same_terminal spelled here many linked label_of
argument_derives = let d = expr_laws.decides 1 in d.sound argument_tokens [] argument_tree refl refl
