-- The parser of types reads their grammar.
use Rattle.std.proofs.Common.{ℕ, zero, suc, true, false, List, [], ◌∷◌, refl, None}
use Rattle.elm_base.specs.declared.tree.TypeTree.{TypeTree}
use Rattle.grammar.specs.declared.terminal.Terminal.{Terminal}
use Rattle.grammar.specs.declared.terminal.Terminal.TheVariants as k
use Rattle.grammar.specs.Terminals.{same_terminal}
use Rattle.grammar.specs.Rules as rule
use Rattle.grammar.specs.Rules.{Rule, at_most_nine}
use Rattle.grammar.specs.Reader.{Parser}
use Rattle.grammar.specs.Lists as lists
use Rattle.pattern_parser.specs.Types as g
use Rattle.pattern_parser.specs.TypeReader as m
use Rattle.pattern_parser.specs.TypeReader.{arguments_begin}
use Rattle.grammar.proofs.Laws.{Reading, seq, by, within, name, mark, nothing, either, optional, only, at, many, spot}
use Rattle.grammar.proofs.ListLaws.{separated}

pub variable_reads : Reading g.variable m.variable false (k.Lower ∷ []) []
unfolding m.variable same_terminal
variable_reads = within (by _ (at (name k.Lower))) refl refl

pub bare_reads : Reading g.bare m.bare false (k.Upper ∷ []) []
unfolding m.bare same_terminal
bare_reads = within (by _ (at (name k.Upper))) refl refl

-- what may go on with a type
abbrev pub go_on : List Terminal
go_on = k.Arrow ∷ arguments_begin

module _ {E : Rule TypeTree} {e : Parser TypeTree} (r : Reading E e false arguments_begin go_on) where
  types_read : Reading (rule.separated E) (lists.separated e) false arguments_begin (k.Comma ∷ go_on)
  unfolding same_terminal
  types_read = within (separated r refl refl) refl refl

  pub inside_brackets_read : Reading (rule.only at_most_nine (rule.◌∣◌ (rule.separated E) (rule.nothing []))) (m.inside_brackets e) true arguments_begin (k.Comma ∷ go_on)
  unfolding m.inside_brackets same_terminal
  inside_brackets_read = within (only at_most_nine (either types_read (nothing []) refl)) refl refl

  pub brackets_read : Reading (g.brackets E) (m.brackets e) false (k.LeftParen ∷ []) []
  unfolding m.brackets same_terminal
  brackets_read = within (by _ (at (by _ (seq (mark k.LeftParen) (by _ (seq inside_brackets_read (mark k.RightParen) refl)) refl)))) refl refl

  pub field_reads : Reading (g.field E) (m.field e) false (k.Lower ∷ []) go_on
  unfolding m.field same_terminal
  field_reads = within (seq spot (by _ (seq (mark k.Colon) r refl)) refl) refl refl

  pub next_field_reads : Reading (rule.◌▷◌ (rule.mark k.Comma) (g.field E)) (m.next_field e) false (k.Comma ∷ []) go_on
  unfolding m.next_field same_terminal
  next_field_reads = within (by _ (seq (mark k.Comma) field_reads refl)) refl refl

  pub more_fields_read : Reading (rule.many (rule.◌▷◌ (rule.mark k.Comma) (g.field E))) (m.more_fields e) true (k.Comma ∷ []) (k.Comma ∷ go_on)
  unfolding m.more_fields same_terminal
  more_fields_read = within (many next_field_reads refl) refl refl

  fields_read : Reading (rule.separated (g.field E)) (lists.separated (m.field e)) false (k.Lower ∷ []) (k.Comma ∷ go_on)
  unfolding same_terminal
  fields_read = within (separated field_reads refl refl) refl refl

  pub behind_variable_reads : Reading (g.behind_variable E) (m.behind_variable e) false (k.Bar ∷ []) (k.Comma ∷ go_on)
  unfolding m.behind_variable same_terminal
  behind_variable_reads = within (by _ (by _ (seq (mark k.Bar) fields_read refl))) refl refl

  pub behind_label_reads : Reading (g.behind_label E) (m.behind_label e) false (k.Colon ∷ []) (k.Comma ∷ go_on)
  unfolding m.behind_label same_terminal
  behind_label_reads = within (by _ (seq (by _ (seq (mark k.Colon) r refl)) more_fields_read refl)) refl refl

  pub named_fields_read : Reading (rule.◌<$>◌ (λ x. x.1 x.0) (rule.◌⊗◌ rule.spot (rule.◌∣◌ (g.behind_variable E) (g.behind_label E)))) (m.named_fields e) false (k.Lower ∷ []) (k.Comma ∷ go_on)
  unfolding m.named_fields same_terminal
  named_fields_read = within (by _ (seq spot (either behind_variable_reads behind_label_reads refl) refl)) refl refl

  pub inside_braces_read : Reading (g.inside_braces E) (m.inside_braces e) true (k.Lower ∷ []) (k.Lower ∷ k.Comma ∷ go_on)
  unfolding m.inside_braces same_terminal
  inside_braces_read = within (either named_fields_read (nothing (None, [])) refl) refl refl

  pub braces_read : Reading (g.braces E) (m.braces e) false (k.LeftBrace ∷ []) []
  unfolding m.braces same_terminal
  braces_read = within (by _ (at (by _ (seq (mark k.LeftBrace) (by _ (seq inside_braces_read (mark k.RightBrace) refl)) refl)))) refl refl

  pub other_reads : Reading (g.other E) (m.other e) false (k.Lower ∷ k.LeftParen ∷ k.LeftBrace ∷ []) []
  unfolding m.other same_terminal
  other_reads = within (either variable_reads (either brackets_read braces_read refl) refl) refl refl

  pub argument_reads : Reading (g.argument E) (m.argument e) false arguments_begin []
  unfolding m.argument same_terminal
  argument_reads = within (either bare_reads other_reads refl) refl refl

  pub arguments_read : Reading (rule.many (g.argument E)) (m.arguments e) true arguments_begin arguments_begin
  unfolding m.arguments same_terminal
  arguments_read = within (many argument_reads refl) refl refl

  pub applied_reads : Reading (g.applied E) (m.applied e) false (k.Upper ∷ []) arguments_begin
  unfolding m.applied same_terminal
  applied_reads = within (by _ (at (seq (name k.Upper) arguments_read refl))) refl refl

  pub operand_reads : Reading (g.operand E) (m.operand e) false arguments_begin arguments_begin
  unfolding m.operand same_terminal
  operand_reads = within (either applied_reads other_reads refl) refl refl

  pub target_reads : Reading (rule.optional (rule.◌▷◌ (rule.mark k.Arrow) E)) (m.target e) true (k.Arrow ∷ []) go_on
  unfolding m.target same_terminal
  target_reads = within (optional (by _ (seq (mark k.Arrow) r refl))) refl refl

  pub level_reads : Reading (g.level E) (m.level e) false arguments_begin go_on
  unfolding m.level same_terminal
  level_reads = within (by _ (at (seq operand_reads target_reads refl))) refl refl

pub type_reads : (depth : ℕ) → Reading (g.type_at depth) (m.type_at depth) false arguments_begin go_on
unfolding g.type_at m.type_at
type_reads zero = record {
  sound = record { reads = λ ts rest x e. cc };
  complete = λ us rest x w s. absurd w;
  begins = λ us x w. absurd w;
}
type_reads (suc depth) = let r = level_reads (type_reads depth) in record {
  sound = record { reads = r.sound.reads };
  complete = r.complete;
  begins = r.begins;
}
