-- What may stand behind a value depends on the value: a parser reads those that pass a test where fewer terminals go on.
use Rattle.std.proofs.Common.{◌≡◌, Bool, true, false, ⊎_elim, List, [], ◌∷◌, ◌++◌, refl, sym, ◌∙◌, ap, subst, append_assoc, Some}
use Rattle.elm_base.specs.Lexemes.{Lexeme}
use Rattle.grammar.specs.declared.terminal.Terminal.{Terminal}
use Rattle.grammar.specs.Terminals.{terminal, starts}
use Rattle.grammar.specs.Rules as rule
use Rattle.grammar.specs.Rules.{Rule}
use Rattle.grammar.specs.Reader as reader
use Rattle.grammar.specs.Reader.{Outcome, Parser, and_then}
use Rattle.grammar.proofs.Laws.{Reading, Begins, apart, apart_has, starts-append, seq_complete, seq_stops, covers, covers_starts, only as only_reads, seq as seq_reads, by as by_reads, mark}

pub record Ends {A : Type 0} (P : Rule A) (p : Parser A) (B : A → Type 0) (more : List Terminal) : Type 0 where
  pub complete : (us rest : List Lexeme) (x : A) → P us x → B x → starts more rest ≡ false → p (us ++ rest) ≡ Some (x, rest)

-- whatever the value is
pub always : {A : Type 0} {P : Rule A} {p : Parser A} {e : Bool} {f m : List Terminal} {B : A → Type 0} → Reading P p e f m → Ends P p B m
always r = record { complete = λ us rest x w b s. r.complete us rest x w s }

pub when : {A : Type 0} {P : Rule A} {p : Parser A} {m : List Terminal} {B C : A → Type 0} → ((x : A) → C x → B x) → Ends P p B m → Ends P p C m
when h r = record { complete = λ us rest x w c s. r.complete us rest x w (h x c) s }

stops : (f m : List Terminal) (us rest : List Lexeme) → Begins false f us → apart f m ≡ true → starts m (us ++ rest) ≡ false
stops f m [] rest b a = cc
stops f m (t ∷ us) rest b a = apart_has f m (terminal t) a b

-- one after the other, where the second takes a token at least
pub seq : {A B : Type 0} {P : Rule A} {Q : Rule B} {p : Parser A} {q : Parser B} {C : B → Type 0} {e1 : Bool} {f1 m1 f2 m2 m : List Terminal}
    → Reading P p e1 f1 m1 → Reading Q q false f2 m2 → Ends Q q C m → apart f2 m1 ≡ true → Ends (rule.◌⊗◌ P Q) (reader.◌⊗◌ p q) (λ x. C x.1) m
seq {p = p} {q = q} {m1 = m1} {f2 = f2} rp rq r a = record {
  complete = λ ts rest x w b s.
      let first = rp.complete w.0 (w.1 ++ rest) x.0 w.3 (stops f2 m1 w.1 rest (rq.begins w.1 x.1 w.4) a) in
      let second = r.complete w.1 rest x.1 w.4 b s in
      let all = seq_complete p q (w.0 ++ (w.1 ++ rest)) (w.1 ++ rest) rest x.0 x.1 first second in
      subst (λ (z : List Lexeme). reader.◌⊗◌ p q z ≡ Some (x, rest)) (sym (ap (λ z. z ++ rest) w.2 ∙ append_assoc w.0 w.1 rest)) all;
}

-- the same where the second may take nothing
pub seq_any : {A B : Type 0} {P : Rule A} {Q : Rule B} {p : Parser A} {q : Parser B} {C : B → Type 0} {e1 : Bool} {f1 m1 f2 m2 m : List Terminal}
    → Reading P p e1 f1 m1 → Reading Q q true f2 m2 → Ends Q q C m → apart f2 m1 ≡ true → Ends (rule.◌⊗◌ P Q) (reader.◌⊗◌ p q) (λ x. C x.1) (m1 ++ m)
seq_any {p = p} {q = q} {m1 = m1} {f2 = f2} {m = m} rp rq r a = record {
  complete = λ ts rest x w b s.
      let first = rp.complete w.0 (w.1 ++ rest) x.0 w.3 (seq_stops true f2 m1 m w.1 rest (rq.begins w.1 x.1 w.4) a s) in
      let second = r.complete w.1 rest x.1 w.4 b (starts-append m1 m rest s).1 in
      let all = seq_complete p q (w.0 ++ (w.1 ++ rest)) (w.1 ++ rest) rest x.0 x.1 first second in
      subst (λ (z : List Lexeme). reader.◌⊗◌ p q z ≡ Some (x, rest)) (sym (ap (λ z. z ++ rest) w.2 ∙ append_assoc w.0 w.1 rest)) all;
}

pub by : {A B : Type 0} {P : Rule A} {p : Parser A} {C : B → Type 0} {m : List Terminal} (f : A → B) → Ends P p (λ x. C (f x)) m → Ends (rule.◌<$>◌ f P) (reader.◌<$>◌ f p) C m
by {p = p} {C = C} f r = record {
  complete = λ us rest y w b s. let is = r.complete us rest w.0 w.1 (subst C w.2 b) s in rw (is, w.2);
}

pub at : {A : Type 0} {P : Rule A} {p : Parser A} {B : A → Type 0} {m : List Terminal} → Ends P p B m → Ends (rule.at P) (reader.at p) (λ x. B x.1) m
unfolding reader.here
at {p = p} r = record {
  complete = λ us rest x w b s.
      seq_complete reader.here p (us ++ rest) (us ++ rest) rest x.0 x.1 (rw (w.0.2, w.0.3)) (r.complete us rest x.1 w.1 b s);
}

chosen : {A : Type 0} (f : List Terminal) (p q : Parser A) (us rest : List Lexeme) (y : Outcome A) → Begins false f us → p (us ++ rest) ≡ y → reader.choose f p q (us ++ rest) ≡ y
chosen f p q [] rest y b e = cc
chosen f p q (t ∷ us) rest y b e = rw b e

passed_over : {A : Type 0} (f g : List Terminal) (p q : Parser A) (us rest : List Lexeme) (y : Outcome A) → Begins false g us → apart g f ≡ true → q (us ++ rest) ≡ y
    → reader.choose f p q (us ++ rest) ≡ y
passed_over f g p q [] rest y b a e = cc
passed_over f g p q (t ∷ us) rest y b a e = rw (apart_has g f (terminal t) a b) e

pub either : {A : Type 0} {P Q : Rule A} {p q : Parser A} {B : A → Type 0} {f1 n1 m1 f2 n2 m2 : List Terminal}
    → Reading P p false f1 n1 → Ends P p B m1 → Reading Q q false f2 n2 → Ends Q q B m2 → apart f2 f1 ≡ true
    → Ends (rule.◌∣◌ P Q) (reader.choose f1 p q) B (m1 ++ m2)
either {A} {P} {Q} {p} {q} {f1 = f1} {m1 = m1} {f2 = f2} {m2 = m2} rp ep rq eq_ a = record {
  complete = λ us rest x w b s.
      let both = starts-append m1 m2 rest s in
      ⊎_elim (λ (h : P us x). chosen f1 p q us rest (Some (x, rest)) (rp.begins us x h) (ep.complete us rest x h b both.0))
      (λ (h : Q us x). passed_over f1 f2 p q us rest (Some (x, rest)) (rq.begins us x h) a (eq_.complete us rest x h b both.1)) w;
}

-- the reading of the values that pass the test
pub only : {A : Type 0} {P : Rule A} {p : Parser A} {e : Bool} {f n m : List Terminal} (test : A → Bool) → Reading P p e f n → Ends P p (λ x. test x ≡ true) m
    → Reading (rule.only test P) (reader.only test p) e f m
only test r s = let o = only_reads test r in record {
  sound = o.sound;
  complete = λ us rest x w st. let is = s.complete us rest x w.0 w.1 st in rw (is, w.1);
  begins = o.begins;
}

pub within : {A : Type 0} {P : Rule A} {p : Parser A} {B : A → Type 0} {m m' : List Terminal} → Ends P p B m → covers m m' ≡ true → Ends P p B m'
within {m = m} {m' = m'} r c = record { complete = λ us rest x w b s. r.complete us rest x w b (covers_starts m m' rest c s) }

-- no value passes
pub never : {A : Type 0} {P : Rule A} {p : Parser A} {B : A → Type 0} {m : List Terminal} → ((x : A) → B x → ⊥) → Ends P p B m
never h = record { complete = λ us rest x w b s. absurd (h x b) }

-- ---- behind a mark

apart_none : (xs : List Terminal) → apart xs [] ≡ true
apart_none [] = refl
apart_none (x ∷ xs) = apart_none xs

pub behind : {A : Type 0} {Q : Rule A} {q : Parser A} {f m : List Terminal} (symbol : Terminal) → Reading Q q false f m
    → Reading (rule.◌▷◌ (rule.mark symbol) Q) (reader.◌▷◌ (reader.mark symbol) q) false (symbol ∷ []) m
behind {f = f} symbol r = by_reads (λ x. x.1) (seq_reads (mark symbol) r (apart_none f))

pub after : {A : Type 0} {Q : Rule A} {q : Parser A} {C : A → Type 0} {f n m : List Terminal} (symbol : Terminal) → Reading Q q false f n → Ends Q q C m
    → Ends (rule.◌▷◌ (rule.mark symbol) Q) (reader.◌▷◌ (reader.mark symbol) q) C m
after {C = C} {f = f} symbol r s = by {C = C} (λ x. x.1) (seq {C = C} (mark symbol) r s (apart_none f))

-- ---- the last of several

-- what is said of the last, if there is one
abbrev pub Last : {A : Type 0} → (A → Type 0) → List A → Type 0
Last B [] = Unit {0}
Last B (x ∷ []) = B x
Last B (x ∷ y ∷ ys) = Last B (y ∷ ys)

pub later : {A : Type 0} (B : A → Type 0) (x : A) (xs : List A) → Last B (x ∷ xs) → Last B xs
later B x [] h = tt
later B x (y ∷ ys) h = h

pub any_last : {A : Type 0} (xs : List A) → Last (λ (x : A). Unit {0}) xs
any_last [] = tt
any_last (x ∷ []) = tt
any_last (x ∷ y ∷ ys) = any_last (y ∷ ys)
