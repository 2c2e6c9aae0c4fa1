-- The parsers of headers, imports and declarations read their grammar.
use Rattle.std.proofs.Common.{ℕ, true, false, not, List, [], ◌∷◌, refl}
use Rattle.grammar.specs.declared.terminal.Terminal.{Terminal}
use Rattle.grammar.specs.declared.terminal.Terminal.TheVariants as k
use Rattle.grammar.specs.Terminals.{same_terminal, is_qualified}
use Rattle.grammar.specs.Spelling.{int_value}
use Rattle.grammar.specs.Rules as rule
use Rattle.grammar.specs.Reader as reader
use Rattle.grammar.specs.Lists.{TakesSome}
use Rattle.grammar.proofs.Laws.{Reading, seq, by, within, spelled, name, mark, nothing, either, optional, only, at, many, spot}
use Rattle.grammar.proofs.ListLaws.{separated}
use Rattle.grammar.proofs.ListTurns.{takes_some}
use Rattle.pattern_parser.specs.TypeReader.{arguments_begin}
use Rattle.pattern_parser.proofs.TypeReadings as types
use Rattle.pattern_parser.proofs.TypeReadings.{type_reads}
use Rattle.expr_grammar.specs.ExprReader.{below, operators_begin}
use Rattle.expr_grammar.specs.ExprReader as exprs
use Rattle.expr_grammar.proofs.ExprReadings as expressions
use Rattle.expr_grammar.proofs.ExprReadings.{tree_reads, sign_reads, operator_reads, goes_on}
use Rattle.module_grammar.specs.Declarations as g
use Rattle.module_grammar.specs.Declarations.{rules_at, is_level}
use Rattle.module_grammar.specs.DeclarationReader as m
use Rattle.module_grammar.specs.DeclarationReader.{levels_begin}

-- ---- names

upper_reads : Reading g.upper m.upper false (k.Upper ∷ []) []
unfolding m.upper same_terminal
upper_reads = within (only (λ text. not (is_qualified text)) (name k.Upper)) refl refl

upper_spot_reads : Reading g.upper_spot m.upper_spot false (k.Upper ∷ []) []
unfolding m.upper_spot same_terminal
upper_spot_reads = within (by _ (at upper_reads)) refl refl

pub upper_spot_takes : TakesSome m.upper_spot
upper_spot_takes = takes_some upper_spot_reads

bracketed_reads : Reading g.bracketed m.bracketed false (k.LeftParen ∷ []) []
unfolding m.bracketed same_terminal
bracketed_reads = within (by _ (seq (mark k.LeftParen) (by _ (seq sign_reads (mark k.RightParen) refl)) refl)) refl refl

pub own_name_reads : Reading g.own_name m.own_name false (k.Lower ∷ k.LeftParen ∷ []) []
unfolding m.own_name same_terminal
own_name_reads = within (either (name k.Lower) bracketed_reads refl) refl refl

pub spot_takes : TakesSome reader.spot
spot_takes = takes_some spot

variables_read : Reading (rule.many rule.spot) m.variables true (k.Lower ∷ []) (k.Lower ∷ [])
unfolding m.variables same_terminal
variables_read = within (many spot refl) refl refl

-- ---- what is exposed

shown_reads : Reading g.shown m.shown false (k.DotDot ∷ k.Upper ∷ []) (k.Comma ∷ [])
unfolding m.shown m.all_constructors m.listed_constructors same_terminal
shown_reads = within (either (by _ (mark k.DotDot)) (by _ (separated upper_spot_reads refl refl)) refl) refl refl

constructors_shown_read : Reading g.constructors_shown m.constructors_shown true (k.LeftParen ∷ []) (k.LeftParen ∷ [])
unfolding m.constructors_shown same_terminal
constructors_shown_read =
    within (either (by _ (seq (mark k.LeftParen) (by _ (seq shown_reads (mark k.RightParen) refl)) refl)) (nothing _) refl) refl refl

value_item_reads : Reading g.value_item m.value_item false (k.Lower ∷ []) []
unfolding m.value_item same_terminal
value_item_reads = within (by _ (at (name k.Lower))) refl refl

operator_item_reads : Reading g.operator_item m.operator_item false (k.LeftParen ∷ []) []
unfolding m.operator_item same_terminal
operator_item_reads = within (by _ (at bracketed_reads)) refl refl

type_item_reads : Reading g.type_item m.type_item false (k.Upper ∷ []) (k.LeftParen ∷ [])
unfolding m.type_item same_terminal
type_item_reads = within (by _ (at (seq upper_reads constructors_shown_read refl))) refl refl

item_reads : Reading g.item m.item false (k.Lower ∷ k.LeftParen ∷ k.Upper ∷ []) (k.LeftParen ∷ [])
unfolding m.item same_terminal
item_reads = within (either value_item_reads (either operator_item_reads type_item_reads refl) refl) refl refl

pub item_takes : TakesSome m.item
item_takes = takes_some item_reads

exposed_reads : Reading g.exposed m.exposed false (k.DotDot ∷ k.Lower ∷ k.LeftParen ∷ k.Upper ∷ []) (k.Comma ∷ k.LeftParen ∷ [])
unfolding m.exposed m.all_exposed m.items_exposed same_terminal
exposed_reads = within (either (by _ (mark k.DotDot)) (by _ (separated item_reads refl refl)) refl) refl refl

exposing_list_reads : Reading g.exposing_list m.exposing_list false (k.LeftParen ∷ []) []
unfolding m.exposing_list same_terminal
exposing_list_reads = within (by _ (seq (mark k.LeftParen) (by _ (seq exposed_reads (mark k.RightParen) refl)) refl)) refl refl

-- ---- header and imports

pub header_reads : Reading g.header m.header false (k.Module ∷ []) []
unfolding m.header m.header_exposing same_terminal
header_reads =
    within (by _ (at (by _ (seq (mark k.Module) (seq (name k.Upper)
    (by _ (seq (either exposing_list_reads (nothing _) refl) (mark k.Where) refl)) refl) refl)))) refl refl

import_alias_reads : Reading (rule.optional (rule.◌▷◌ (rule.mark k.As) g.upper)) m.import_alias true (k.As ∷ []) (k.As ∷ [])
unfolding m.import_alias same_terminal
import_alias_reads = within (optional (by _ (seq (mark k.As) upper_reads refl))) refl refl

import_exposing_reads : Reading (rule.optional (rule.◌▷◌ (rule.mark k.Exposing) g.exposing_list)) m.import_exposing true (k.Exposing ∷ []) (k.Exposing ∷ [])
unfolding m.import_exposing same_terminal
import_exposing_reads = within (optional (by _ (seq (mark k.Exposing) exposing_list_reads refl))) refl refl

pub import_reads : Reading g.import_ m.import_ false (k.Import ∷ []) (k.As ∷ k.Exposing ∷ [])
unfolding m.import_ same_terminal
import_reads =
    within (by _ (at (by _ (seq (mark k.Import) (seq (name k.Upper) (seq import_alias_reads import_exposing_reads refl) refl) refl)))) refl refl

-- ---- levels

level_reads : Reading g.level m.level false (k.Int ∷ []) []
unfolding m.level same_terminal
level_reads = within (by _ (only is_level (spelled k.Int int_value))) refl refl

grouping_reads : Reading g.grouping m.grouping false levels_begin []
unfolding m.grouping m.left_grouping m.right_grouping m.no_grouping same_terminal
grouping_reads = within (either (by _ (mark k.Infixl)) (either (by _ (mark k.Infixr)) (by _ (mark k.Infix)) refl) refl) refl refl

pub levels_read : Reading g.levels m.levels false levels_begin []
unfolding m.levels same_terminal
levels_read = within (by _ (at (seq grouping_reads (seq level_reads operator_reads refl) refl))) refl refl

-- ---- declarations

abbrev pub declarations_begin : List Terminal
declarations_begin = k.Type ∷ k.Port ∷ k.Lower ∷ k.LeftParen ∷ levels_begin

module _ (depth : ℕ) where
  constructor_reads : Reading (g.constructor (rules_at depth)) (m.constructor (below depth)) false (k.Upper ∷ []) arguments_begin
  unfolding m.constructor same_terminal
  constructor_reads = within (by _ (at (seq upper_reads (types.arguments_read (type_reads depth)) refl))) refl refl

  next_constructor_reads : Reading (rule.◌▷◌ (rule.mark k.Bar) (g.constructor (rules_at depth))) (m.next_constructor (below depth)) false (k.Bar ∷ []) arguments_begin
  unfolding m.next_constructor same_terminal
  next_constructor_reads = within (by _ (seq (mark k.Bar) constructor_reads refl)) refl refl

  pub next_constructor_takes : TakesSome (m.next_constructor (below depth))
  next_constructor_takes = takes_some next_constructor_reads

  constructors_read : Reading (g.constructors (rules_at depth)) (m.constructors (below depth)) false (k.Upper ∷ []) (k.Bar ∷ arguments_begin)
  unfolding m.constructors same_terminal
  constructors_read = within (by _ (seq constructor_reads (many next_constructor_reads refl) refl)) refl refl

  union_reads : Reading (g.union (rules_at depth)) (m.union (below depth)) false (k.Upper ∷ []) (k.Bar ∷ arguments_begin)
  unfolding m.union same_terminal
  union_reads =
      within (by _ (seq upper_spot_reads (seq variables_read (by _ (seq (mark k.Equals) constructors_read refl)) refl) refl)) refl refl

  alias_reads : Reading (g.alias (rules_at depth)) (m.alias (below depth)) false (k.Alias ∷ []) types.go_on
  unfolding m.alias same_terminal
  alias_reads =
      within (by _ (by _ (seq (mark k.Alias) (seq upper_spot_reads
      (seq variables_read (by _ (seq (mark k.Equals) (type_reads depth) refl)) refl) refl) refl))) refl refl

  pub type_declaration_reads : Reading (g.type_declaration (rules_at depth)) (m.type_declaration (below depth)) false (k.Type ∷ []) (k.Bar ∷ types.go_on)
  unfolding m.type_declaration same_terminal
  type_declaration_reads = within (by _ (at (by _ (seq (mark k.Type) (either alias_reads union_reads refl) refl)))) refl refl

  port_annotated_reads : Reading (g.port_annotated (rules_at depth)) (m.port_annotated (below depth)) false (k.Colon ∷ []) types.go_on
  unfolding m.port_annotated same_terminal
  port_annotated_reads = within (by _ (by _ (seq (mark k.Colon) (type_reads depth) refl))) refl refl

  port_defined_reads : Reading (g.port_defined (rules_at depth)) (m.port_defined (below depth)) false (k.Equals ∷ []) goes_on
  unfolding m.port_defined same_terminal
  port_defined_reads = let t = tree_reads depth in within (by _ (by _ (seq (mark k.Equals) t.whole refl))) refl refl

  pub port_reads : Reading (g.port (rules_at depth)) (m.port (below depth)) false (k.Port ∷ []) (k.Arrow ∷ goes_on)
  unfolding m.port same_terminal
  port_reads = within (by _ (at (by _ (seq (mark k.Port) (seq spot (either port_annotated_reads port_defined_reads refl) refl) refl)))) refl refl

  named_declaration_reads : Reading (g.named_declaration (rules_at depth)) (m.named_declaration (below depth)) false (k.Lower ∷ k.LeftParen ∷ []) (k.Arrow ∷ goes_on)
  unfolding m.named_declaration same_terminal
  named_declaration_reads =
      let t = tree_reads depth in
      let a = expressions.annotated_reads depth t.whole t.closed t.signed t.inner t.named in
      let d = expressions.defined_reads depth t.whole t.closed t.signed t.inner t.named in
      within (by _ (at (seq own_name_reads (either a d refl) refl))) refl refl

  pub declaration_reads : Reading (g.declaration (rules_at depth)) (m.declaration (below depth)) false declarations_begin (k.Arrow ∷ goes_on)
  unfolding m.declaration same_terminal
  declaration_reads =
      within (either type_declaration_reads (either port_reads (either levels_read named_declaration_reads refl) refl) refl) refl refl

  pub parameter_takes : TakesSome (exprs.parameter (below depth))
  parameter_takes =
      let t = tree_reads depth in takes_some (expressions.parameter_reads depth t.whole t.closed t.signed t.inner t.named)
