-- The parser of patterns reads their grammar.
use Rattle.std.proofs.Common.{ℕ, zero, suc, true, false, List, [], ◌∷◌, refl}
use Rattle.elm_base.specs.declared.tree.Pattern.{Pattern}
use Rattle.grammar.specs.declared.terminal.Terminal.{Terminal}
use Rattle.grammar.specs.declared.terminal.Terminal.TheVariants as k
use Rattle.grammar.specs.Terminals.{same_terminal}
use Rattle.grammar.specs.Spelling.{int_value, char_value, text_value}
use Rattle.grammar.specs.Rules as rule
use Rattle.grammar.specs.Rules.{Rule, at_most_nine}
use Rattle.grammar.specs.Reader as reader
use Rattle.grammar.specs.Reader.{Parser}
use Rattle.grammar.specs.Lists as lists
use Rattle.pattern_parser.specs.Patterns as g
use Rattle.pattern_parser.specs.PatternReader as m
use Rattle.pattern_parser.specs.PatternReader.{patterns_begin}
use Rattle.grammar.proofs.Laws.{Reading, seq, by, within, spelled, name, mark, nothing, either, optional, only, at, many, spot}
use Rattle.grammar.proofs.ListLaws.{separated}

pub anything_reads : Reading g.anything m.anything false (k.Underscore ∷ []) []
unfolding m.anything same_terminal
anything_reads = within (by _ (at (mark k.Underscore))) refl refl

pub variable_reads : Reading g.variable m.variable false (k.Lower ∷ []) []
unfolding m.variable same_terminal
variable_reads = within (by _ (at (name k.Lower))) refl refl

pub int_reads : Reading g.int m.int false (k.Int ∷ []) []
unfolding m.int same_terminal
int_reads = within (by _ (at (spelled k.Int int_value))) refl refl

pub char_reads : Reading g.char_ m.char_ false (k.Char ∷ []) []
unfolding m.char_ same_terminal
char_reads = within (by _ (at (spelled k.Char char_value))) refl refl

pub text_reads : Reading g.text m.text false (k.Text ∷ []) []
unfolding m.text same_terminal
text_reads = within (by _ (at (spelled k.Text text_value))) refl refl

pub literal_reads : Reading g.literal m.literal false (k.Int ∷ k.Char ∷ k.Text ∷ []) []
unfolding m.literal same_terminal
literal_reads = within (either int_reads (either char_reads text_reads refl) refl) refl refl

pub bare_reads : Reading g.bare m.bare false (k.Upper ∷ []) []
unfolding m.bare same_terminal
bare_reads = within (by _ (at (name k.Upper))) refl refl

spots_read : Reading (rule.separated rule.spot) (lists.separated reader.spot) false (k.Lower ∷ []) (k.Comma ∷ [])
unfolding same_terminal
spots_read = within (separated spot refl refl) refl refl

pub labels_read : Reading g.labels m.labels false (k.LeftBrace ∷ []) []
unfolding m.labels same_terminal
labels_read = within (by _ (at (by _ (seq (mark k.LeftBrace) (by _ (seq spots_read (mark k.RightBrace) refl)) refl)))) refl refl

pub alias_reads : Reading (rule.optional (rule.◌▷◌ (rule.mark k.As) rule.spot)) m.alias true (k.As ∷ []) (k.As ∷ [])
unfolding m.alias same_terminal
alias_reads = within (optional (by _ (seq (mark k.As) spot refl))) refl refl

-- what may go on with a pattern without `as`, and with a whole one
abbrev pub cons_goes_on : List Terminal
cons_goes_on = k.Cons ∷ patterns_begin

abbrev pub goes_on : List Terminal
goes_on = k.As ∷ cons_goes_on

module _ {C : Rule Pattern} {c : Parser Pattern} (r : Reading C c false patterns_begin cons_goes_on) where
  pub whole_reads : Reading (g.whole C) (m.whole c) false patterns_begin goes_on
  unfolding m.whole same_terminal
  whole_reads = within (by _ (at (seq r alias_reads refl))) refl refl

  patterns_read : Reading (rule.separated (g.whole C)) (lists.separated (m.whole c)) false patterns_begin (k.Comma ∷ goes_on)
  unfolding same_terminal
  patterns_read = within (separated whole_reads refl refl) refl refl

  pub any_patterns_read : Reading (rule.◌∣◌ (rule.separated (g.whole C)) (rule.nothing [])) (m.any_patterns c) true patterns_begin (k.Comma ∷ goes_on)
  unfolding m.any_patterns same_terminal
  any_patterns_read = within (either patterns_read (nothing []) refl) refl refl

  pub list_reads : Reading (g.list C) (m.list c) false (k.LeftBracket ∷ []) []
  unfolding m.list same_terminal
  list_reads = within (by _ (at (by _ (seq (mark k.LeftBracket) (by _ (seq any_patterns_read (mark k.RightBracket) refl)) refl)))) refl refl

  pub inside_brackets_read : Reading (rule.only at_most_nine (rule.◌∣◌ (rule.separated (g.whole C)) (rule.nothing []))) (m.inside_brackets c) true patterns_begin (k.Comma ∷ goes_on)
  unfolding m.inside_brackets same_terminal
  inside_brackets_read = within (only at_most_nine any_patterns_read) refl refl

  pub brackets_read : Reading (g.brackets C) (m.brackets c) false (k.LeftParen ∷ []) []
  unfolding m.brackets same_terminal
  brackets_read = within (by _ (at (by _ (seq (mark k.LeftParen) (by _ (seq inside_brackets_read (mark k.RightParen) refl)) refl)))) refl refl

  pub other_reads : Reading (g.other C) (m.other c) false
      (k.Underscore ∷ k.Lower ∷ k.Int ∷ k.Char ∷ k.Text ∷ k.LeftBracket ∷ k.LeftParen ∷ k.LeftBrace ∷ []) []
  unfolding m.other same_terminal
  other_reads =
      within (either anything_reads (either variable_reads (either literal_reads (either list_reads (either brackets_read labels_read refl) refl) refl) refl) refl) refl refl

  pub part_reads : Reading (g.part C) (m.part c) false patterns_begin []
  unfolding m.part same_terminal
  part_reads = within (either bare_reads other_reads refl) refl refl

  pub parts_read : Reading (rule.many (g.part C)) (m.parts c) true patterns_begin patterns_begin
  unfolding m.parts same_terminal
  parts_read = within (many part_reads refl) refl refl

  pub made_reads : Reading (g.made C) (m.made c) false (k.Upper ∷ []) patterns_begin
  unfolding m.made same_terminal
  made_reads = within (by _ (at (seq (name k.Upper) parts_read refl))) refl refl

  pub operand_reads : Reading (g.operand C) (m.operand c) false patterns_begin patterns_begin
  unfolding m.operand same_terminal
  operand_reads = within (either made_reads other_reads refl) refl refl

  pub tail_reads : Reading (rule.optional (rule.◌▷◌ (rule.mark k.Cons) C)) (m.tail c) true (k.Cons ∷ []) cons_goes_on
  unfolding m.tail same_terminal
  tail_reads = within (optional (by _ (seq (mark k.Cons) r refl))) refl refl

  pub level_reads : Reading (g.level C) (m.level c) false patterns_begin cons_goes_on
  unfolding m.level same_terminal
  level_reads = within (by _ (at (seq operand_reads tail_reads refl))) refl refl

pub cons_reads : (depth : ℕ) → Reading (g.cons_at depth) (m.cons_at depth) false patterns_begin cons_goes_on
unfolding g.cons_at m.cons_at
cons_reads zero = record {
  sound = record { reads = λ ts rest x e. cc };
  complete = λ us rest x w s. absurd w;
  begins = λ us x w. absurd w;
}
cons_reads (suc depth) = let r = level_reads (cons_reads depth) in record {
  sound = record { reads = r.sound.reads };
  complete = r.complete;
  begins = r.begins;
}
