-- A token is the longest of all spellings at its place, of any kind: the first byte tells the kind.
use Rattle.std.proofs.Common.{◌≡◌, ◌≤◌, Bool, [], ◌∷◌, ◌++◌, length, refl, ap, ◌∙◌, inl, inr, arith, None}
use Rattle.std.specs.Prelude.{slice_index}
use Rattle.std.specs.List.{list_all}
use Rattle.std.proofs.lemmas.Bool.{and_parts}
use Rattle.elm_base.specs.declared.token.TokenKind.{TokenKind}
use Rattle.layout_lexer.specs.declared.byte_class.Class.{Class}
use Rattle.layout_lexer.specs.declared.byte_class.Class.TheVariants.{White, Lower, Upper, Digit, Quote, Apostrophe, Symbol, Operator, Other}
use Rattle.layout_lexer.specs.Chars.{Text, class_of, is_in}
use Rattle.layout_lexer.specs.Spellings.{Begins, IsName, IsRun, IsText, IsChar, IsFieldOrRun, IsSymbol}
use Rattle.layout_lexer.specs.Cuts.{Part}
use Rattle.layout_lexer.specs.Tokens.{Stands, white, line_comment, comment, word, lower, upper, int, text as text_rule, char, field, operator as operator_rule, symbol, token_part, IsSpelling}
use Rattle.layout_lexer.proofs.Classes.{its_class, letter_class}
use Rattle.layout_lexer.proofs.NameReads.{name_letter}
use Rattle.layout_lexer.proofs.TextReads.{quote_class}
use Rattle.layout_lexer.proofs.CharReads.{apostrophe_class}
use Rattle.layout_lexer.proofs.OperatorReads.{point_operator}

-- the class of the first byte of a text
abbrev first_class : Text → Class
first_class text = class_of (slice_index text 0)

run_class : (c : Class) (text t : Text) → Begins t text → IsRun c t → first_class text ≡ c
run_class c text [] b r = absurd (omega (arith, r.0))
run_class c text (x ∷ xs) b r = ap first_class b.1 ∙ its_class c x (and_parts (is_in c x) (list_all (is_in c) xs) r.1).0

text_class : (text t : Text) → Begins t text → IsText t → first_class text ≡ Quote
text_class text t b x = ap first_class (b.1 ∙ ap (λ y. y ++ b.0) x.split) ∙ quote_class

char_class : (text t : Text) → Begins t text → IsChar t → first_class text ≡ Apostrophe
char_class text t b x = ap first_class (b.1 ∙ ap (λ y. y ++ b.0) x.split) ∙ apostrophe_class

operator_class : (text t : Text) → Begins t text → IsFieldOrRun t → first_class text ≡ Operator
operator_class text t b (inl r) = run_class Operator text t b r
operator_class text t b (inr f) = ap first_class (b.1 ∙ ap (λ y. y ++ b.0) f.split) ∙ point_operator

symbol_class : (text t : Text) → Begins t text → IsSymbol t → first_class text ≡ Symbol
symbol_class text t b x = ap first_class (b.1 ∙ ap (λ y. y ++ b.0) x.split) ∙ its_class Symbol x.byte x.symbol

-- the kind of a class
data Family : Type 0 where
  names : Family
  numbers : Family
  texts : Family
  chars : Family
  runs : Family
  symbols : Family
  none : Family

family : Class → Family
family Lower = names
family Upper = names
family Digit = numbers
family Quote = texts
family Apostrophe = chars
family Operator = runs
family Symbol = symbols
family White = none
family Other = none

name_family : (text t : Text) → Begins t text → IsName t → family (first_class text) ≡ names
unfolding family
name_family text t b n = letter_class (λ x. family (first_class text) ≡ names) (slice_index text 0) (name_letter text t b n) (λ e. ap family e) (λ e. ap family e)

-- only a spelling of the kind of the first byte stands there
only : (f : Family) (P : Text → Type 0) → Type 0
only f P = (text t : Text) → family (first_class text) ≡ f → Begins t text → IsSpelling t → P t

only_names : only names IsName
unfolding only family
only_names text t f b (inl n) = n
only_names text t f b (inr (inl r)) = absurd (let e = ap family (run_class Digit text t b r) in cc)
only_names text t f b (inr (inr (inl x))) = absurd (let e = ap family (text_class text t b x) in cc)
only_names text t f b (inr (inr (inr (inl x)))) = absurd (let e = ap family (char_class text t b x) in cc)
only_names text t f b (inr (inr (inr (inr (inl o))))) = absurd (let e = ap family (operator_class text t b o) in cc)
only_names text t f b (inr (inr (inr (inr (inr s))))) = absurd (let e = ap family (symbol_class text t b s) in cc)

only_numbers : only numbers (IsRun Digit)
unfolding only family
only_numbers text t f b (inl n) = absurd (let e = name_family text t b n in cc)
only_numbers text t f b (inr (inl r)) = r
only_numbers text t f b (inr (inr (inl x))) = absurd (let e = ap family (text_class text t b x) in cc)
only_numbers text t f b (inr (inr (inr (inl x)))) = absurd (let e = ap family (char_class text t b x) in cc)
only_numbers text t f b (inr (inr (inr (inr (inl o))))) = absurd (let e = ap family (operator_class text t b o) in cc)
only_numbers text t f b (inr (inr (inr (inr (inr s))))) = absurd (let e = ap family (symbol_class text t b s) in cc)

only_texts : only texts IsText
unfolding only family
only_texts text t f b (inl n) = absurd (let e = name_family text t b n in cc)
only_texts text t f b (inr (inl r)) = absurd (let e = ap family (run_class Digit text t b r) in cc)
only_texts text t f b (inr (inr (inl x))) = x
only_texts text t f b (inr (inr (inr (inl x)))) = absurd (let e = ap family (char_class text t b x) in cc)
only_texts text t f b (inr (inr (inr (inr (inl o))))) = absurd (let e = ap family (operator_class text t b o) in cc)
only_texts text t f b (inr (inr (inr (inr (inr s))))) = absurd (let e = ap family (symbol_class text t b s) in cc)

only_chars : only chars IsChar
unfolding only family
only_chars text t f b (inl n) = absurd (let e = name_family text t b n in cc)
only_chars text t f b (inr (inl r)) = absurd (let e = ap family (run_class Digit text t b r) in cc)
only_chars text t f b (inr (inr (inl x))) = absurd (let e = ap family (text_class text t b x) in cc)
only_chars text t f b (inr (inr (inr (inl x)))) = x
only_chars text t f b (inr (inr (inr (inr (inl o))))) = absurd (let e = ap family (operator_class text t b o) in cc)
only_chars text t f b (inr (inr (inr (inr (inr s))))) = absurd (let e = ap family (symbol_class text t b s) in cc)

only_runs : only runs IsFieldOrRun
unfolding only family
only_runs text t f b (inl n) = absurd (let e = name_family text t b n in cc)
only_runs text t f b (inr (inl r)) = absurd (let e = ap family (run_class Digit text t b r) in cc)
only_runs text t f b (inr (inr (inl x))) = absurd (let e = ap family (text_class text t b x) in cc)
only_runs text t f b (inr (inr (inr (inl x)))) = absurd (let e = ap family (char_class text t b x) in cc)
only_runs text t f b (inr (inr (inr (inr (inl o))))) = o
only_runs text t f b (inr (inr (inr (inr (inr s))))) = absurd (let e = ap family (symbol_class text t b s) in cc)

only_symbols : only symbols IsSymbol
unfolding only family
only_symbols text t f b (inl n) = absurd (let e = name_family text t b n in cc)
only_symbols text t f b (inr (inl r)) = absurd (let e = ap family (run_class Digit text t b r) in cc)
only_symbols text t f b (inr (inr (inl x))) = absurd (let e = ap family (text_class text t b x) in cc)
only_symbols text t f b (inr (inr (inr (inl x)))) = absurd (let e = ap family (char_class text t b x) in cc)
only_symbols text t f b (inr (inr (inr (inr (inl o))))) = absurd (let e = ap family (operator_class text t b o) in cc)
only_symbols text t f b (inr (inr (inr (inr (inr s))))) = s

module _ (joined : Bool) (text : Text) (k : TokenKind) (s : Text) (t : Text) (b : Begins t text) (spelling : IsSpelling t) where
  longer_same : {j : TokenKind} (u : Text) → token_part k s ≡ token_part j u → length t ≤ length u → length t ≤ length s
  longer_same u e h = let same : length s ≡ length u = ap (λ (p : Part). length p.text) e in omega arith

  no_blank : (p : Part) → token_part k s ≡ p → (p.kind ≡ None) → ⊥
  no_blank p e f = let g = ap (λ (q : Part). q.kind) e in cc

  pub longest_of_all : Stands joined text (token_part k s) → length t ≤ length s
  unfolding only family
  longest_of_all (white c rest e g f) = absurd (no_blank _ f refl)
  longest_of_all (line_comment line rest e all ends f) = absurd (no_blank _ f refl)
  longest_of_all (comment inside after e c f) = absurd (no_blank _ f refl)
  longest_of_all (word u l h e f) = longer_same u f (l.longest t b (only_names text t (name_family text u l.front l.spells) b spelling))
  longest_of_all (lower u l h e q f) = longer_same u f (l.longest t b (only_names text t (name_family text u l.front l.spells) b spelling))
  longest_of_all (upper u l h e q f) = longer_same u f (l.longest t b (only_names text t (name_family text u l.front l.spells) b spelling))
  longest_of_all (int u rest l e g h f) = longer_same u f (l.longest t b (only_numbers text t (ap family (run_class Digit text u l.front l.spells)) b spelling))
  longest_of_all (text_rule u plain l f) = longer_same u f (l.longest t b (only_texts text t (ap family (text_class text u l.front l.spells)) b spelling))
  longest_of_all (char u l f) = longer_same u f (l.longest t b (only_chars text t (ap family (char_class text u l.front l.spells)) b spelling))
  longest_of_all (field u l is h f) = longer_same u f (l.longest t b (only_runs text t (ap family (operator_class text u l.front l.spells)) b spelling))
  longest_of_all (operator_rule u plain l r h f) = longer_same u f (l.longest t b (only_runs text t (ap family (operator_class text u l.front l.spells)) b spelling))
  longest_of_all (symbol c rest closed e g f) =
      let x = only_symbols text t (ap family (ap first_class e ∙ g)) b spelling in
      longer_same (c ∷ []) f (omega (arith, ap length x.split))
