-- A choice by a test on several tokens.
use Rattle.std.proofs.Common.{◌≡◌, Bool, true, false, if◌then◌else◌, inl, inr, ⊎_elim, List, [], ◌∷◌, ◌++◌, Some}
use Rattle.elm_base.specs.Lexemes.{Lexeme}
use Rattle.grammar.specs.declared.terminal.Terminal.{Terminal}
use Rattle.grammar.specs.Terminals.{terminal, starts}
use Rattle.grammar.specs.Rules as rule
use Rattle.grammar.specs.Rules.{Rule}
use Rattle.grammar.specs.Reader as reader
use Rattle.grammar.specs.Reader.{Outcome, Parser}
use Rattle.grammar.proofs.Laws.{Reading, Begins, has-append_left, has-append_right, starts-append}

module _ {A : Type 0} {P Q : Rule A} {p q : Parser A} {e2 : Bool} {f1 m1 f2 m2 : List Terminal} (test : List Lexeme → Bool)
    (rp : Reading P p false f1 m1) (rq : Reading Q q e2 f2 m2)
    (told : (us rest : List Lexeme) (x : A) → P us x → test (us ++ rest) ≡ true)
    (untold : (us rest : List Lexeme) (x : A) → Q us x → starts (m1 ++ m2) rest ≡ false → test (us ++ rest) ≡ false) where
  chosen : (b : Bool) (ts rest : List Lexeme) (x : A) → (if b then p ts else q ts) ≡ Some (x, rest) → (us : List Lexeme) × (ts ≡ us ++ rest) × rule.◌∣◌ P Q us x
  chosen true ts rest x e = let s = rp.sound.reads ts rest x e in (s.0, s.1, inl s.2)
  chosen false ts rest x e = let s = rq.sound.reads ts rest x e in (s.0, s.1, inr s.2)

  left : (us : List Lexeme) → Begins false f1 us → Begins e2 (f1 ++ f2) us
  left [] b = cc
  left (t ∷ us) b = has-append_left f1 f2 (terminal t) b

  right : (us : List Lexeme) → Begins e2 f2 us → Begins e2 (f1 ++ f2) us
  right [] b = b
  right (t ∷ us) b = has-append_right f1 f2 (terminal t) b

  first : (us rest : List Lexeme) (x : A) → P us x → starts m1 rest ≡ false → reader.choose_if test p q (us ++ rest) ≡ Some (x, rest)
  first us rest x w s = let t = told us rest x w in let r = rp.complete us rest x w s in rw (t, r)

  second : (us rest : List Lexeme) (x : A) → Q us x → starts (m1 ++ m2) rest ≡ false → reader.choose_if test p q (us ++ rest) ≡ Some (x, rest)
  second us rest x w s =
      let t = untold us rest x w s in
      let both = starts-append m1 m2 rest s in
      let r = rq.complete us rest x w both.1 in rw (t, r)

  pub either_if : Reading (rule.◌∣◌ P Q) (reader.choose_if test p q) e2 (f1 ++ f2) (m1 ++ m2)
  either_if = record {
    sound = record { reads = λ ts rest x e. chosen (test ts) ts rest x e };
    complete = λ us rest x w s.
        let both = starts-append m1 m2 rest s in
        ⊎_elim (λ (h : P us x). first us rest x h both.0) (λ (h : Q us x). second us rest x h s) w;
    begins = λ us x w. ⊎_elim (λ (h : P us x). left us (rp.begins us x h)) (λ (h : Q us x). right us (rq.begins us x h)) w;
  }
