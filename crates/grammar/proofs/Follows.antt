-- What stands second where the first token is of a set. So a choice by two tokens tells apart what begins alike.
use Rattle.std.proofs.Common.{◌≡◌, ℕ, Bool, true, false, ◌&&◌, ⊎_elim, List, [], ◌∷◌, ◌++◌, drop, refl, sym, subst, Option}
use Rattle.elm_base.specs.Lexemes.{Lexeme}
use Rattle.grammar.specs.declared.terminal.Terminal.{Terminal}
use Rattle.grammar.specs.Terminals.{terminal, has, starts}
use Rattle.grammar.specs.Rules as rule
use Rattle.grammar.specs.Rules.{Rule}
use Rattle.grammar.specs.Reader as reader
use Rattle.grammar.specs.Reader.{Parser, starts_two}
use Rattle.grammar.proofs.Laws.{Reading, Begins, apart, apart_has, covers, covers_has, firsts, seq_begins}
use Rattle.grammar.proofs.Choice.{either_if}

-- Behind a first token of the set stands one of `next`, or where `last` says so perhaps none.
pub record Follows {A : Type 0} (P : Rule A) (set : List Terminal) (last : Bool) (next : List Terminal) : Type 0 where
  pub second : (us : List Lexeme) (x : A) → P us x → starts set us ≡ true → Begins last next (drop 1 us)

pub one : {A : Type 0} (symbol : Terminal) (meaning : List ℕ → Option A) {set : List Terminal} → Follows (rule.spelled symbol meaning) set true []
one symbol meaning = record { second = λ us x w h. rw w.1 refl }

pub nothing : {A : Type 0} (a : A) {set : List Terminal} {last : Bool} {next : List Terminal} → Follows (rule.nothing a) set last next
nothing a {set = set} = record { second = λ us x w h. let none : starts set [] ≡ true = subst (λ (z : List Lexeme). starts set z ≡ true) w.0 h in cc }

not_both : (f set : List Terminal) (last : Bool) (next : List Terminal) (us : List Lexeme) → Begins false f us → apart f set ≡ true → starts set us ≡ true → Begins last next (drop 1 us)
not_both f set last next [] b a h = cc
not_both f set last next (t ∷ us) b a h = let other = apart_has f set (terminal t) a b in cc

-- a rule that never begins so
pub never : {A : Type 0} {P : Rule A} {p : Parser A} {f m set : List Terminal} {last : Bool} {next : List Terminal} → Reading P p false f m → apart f set ≡ true → Follows P set last next
never {f = f} {set = set} {last = last} {next = next} r a = record { second = λ us x w h. not_both f set last next us (r.begins us x w) a h }

pub by : {A B : Type 0} {P : Rule A} {set : List Terminal} {last : Bool} {next : List Terminal} (f : A → B) → Follows P set last next → Follows (rule.◌<$>◌ f P) set last next
by f s = record { second = λ us y w h. s.second us w.0 w.1 h }

pub at : {A : Type 0} {P : Rule A} {set : List Terminal} {last : Bool} {next : List Terminal} → Follows P set last next → Follows (rule.at P) set last next
at s = record { second = λ us x w h. s.second us x.1 w.1 h }

pub only : {A : Type 0} {P : Rule A} {set : List Terminal} {last : Bool} {next : List Terminal} (test : A → Bool) → Follows P set last next → Follows (rule.only test P) set last next
only test s = record { second = λ us x w h. s.second us x w.0 h }

pub either : {A : Type 0} {P Q : Rule A} {set : List Terminal} {last : Bool} {next : List Terminal} → Follows P set last next → Follows Q set last next → Follows (rule.◌∣◌ P Q) set last next
either s t = record { second = λ us x w h. ⊎_elim (λ a. s.second us x a h) (λ b. t.second us x b h) w }

-- ---- one after the other

both_parts : (f set : List Terminal) (e1 e2 : Bool) (n f2 : List Terminal) (us vs : List Lexeme) → Begins false f us → Begins e2 f2 vs
    → (starts set us ≡ true → Begins e1 n (drop 1 us)) → starts set (us ++ vs) ≡ true → Begins (e1 && e2) (firsts e1 n f2) (drop 1 (us ++ vs))
both_parts f set e1 e2 n f2 [] vs b c s h = cc
both_parts f set e1 e2 n f2 (t ∷ us) vs b c s h = seq_begins e1 e2 n f2 us vs (s h) c

pub seq : {A B : Type 0} {P : Rule A} {Q : Rule B} {p : Parser A} {q : Parser B} {e1 e2 : Bool} {f1 m1 f2 m2 set n : List Terminal}
    → Reading P p false f1 m1 → Follows P set e1 n → Reading Q q e2 f2 m2 → Follows (rule.◌⊗◌ P Q) set (e1 && e2) (firsts e1 n f2)
seq {e1 = e1} {e2 = e2} {f1 = f1} {f2 = f2} {set = set} {n = n} rp s rq = record {
  second = λ ts x w h.
      subst (λ (z : List Lexeme). Begins (e1 && e2) (firsts e1 n f2) (drop 1 z)) (sym w.2)
      (both_parts f1 set e1 e2 n f2 w.0 w.1 (rp.begins w.0 x.0 w.3) (rq.begins w.1 x.1 w.4) (s.second w.0 x.0 w.3) (subst (λ (z : List Lexeme). starts set z ≡ true) w.2 h));
}

either_part : (set : List Terminal) (e1 : Bool) (n f2 : List Terminal) (us vs : List Lexeme) → Begins false f2 vs → apart f2 set ≡ true
    → (starts set us ≡ true → Begins e1 n (drop 1 us)) → starts set (us ++ vs) ≡ true → Begins false (firsts e1 n f2) (drop 1 (us ++ vs))
either_part set e1 n f2 [] vs c a s h = not_both f2 set false (firsts e1 n f2) vs c a h
either_part set true n f2 (t ∷ us) vs c a s h = seq_begins true false n f2 us vs (s h) c
either_part set false n f2 (t ∷ us) vs c a s h = seq_begins false false n f2 us vs (s h) c

-- where the first may take nothing, and the second never begins so
pub seq_any : {A B : Type 0} {P : Rule A} {Q : Rule B} {q : Parser B} {e1 : Bool} {f2 m2 set n : List Terminal}
    → Follows P set e1 n → Reading Q q false f2 m2 → apart f2 set ≡ true → Follows (rule.◌⊗◌ P Q) set false (firsts e1 n f2)
seq_any {e1 = e1} {f2 = f2} {set = set} {n = n} s rq a = record {
  second = λ ts x w h.
      subst (λ (z : List Lexeme). Begins false (firsts e1 n f2) (drop 1 z)) (sym w.2)
      (either_part set e1 n f2 w.0 w.1 (rq.begins w.1 x.1 w.4) a (s.second w.0 x.0 w.3) (subst (λ (z : List Lexeme). starts set z ≡ true) w.2 h));
}

-- ---- the choice

more_next : (last : Bool) (n n' : List Terminal) (us : List Lexeme) → covers n n' ≡ true → Begins last n us → Begins last n' us
more_next last n n' [] c b = b
more_next last n n' (t ∷ us) c b = covers_has n n' (terminal t) c b

pub within : {A : Type 0} {P : Rule A} {set : List Terminal} {last : Bool} {n n' : List Terminal} → Follows P set last n → covers n n' ≡ true → Follows P set last n'
within {last = last} {n = n} {n' = n'} s c = record { second = λ us x w h. more_next last n n' (drop 1 us) c (s.second us x w h) }

told : (f set n : List Terminal) (us rest : List Lexeme) → Begins false f us → covers f set ≡ true → (starts set us ≡ true → Begins false n (drop 1 us))
    → starts_two set n (us ++ rest) ≡ true
told f set n [] rest b c s = cc
told f set n (t ∷ []) rest b c s = let none = s (covers_has f set (terminal t) c b) in cc
told f set n (t ∷ u ∷ us) rest b c s = let first = covers_has f set (terminal t) c b in let next = s first in rw (first, next) refl

untold_at : (set n n' : List Terminal) (b : Bool) (t : Lexeme) (us rest : List Lexeme) → has set (terminal t) ≡ b → apart n' n ≡ true
    → (starts set (t ∷ us) ≡ true → Begins false n' us) → starts_two set n (t ∷ (us ++ rest)) ≡ false
untold_at set n n' false t us rest e a s = rw e refl
untold_at set n n' true t [] rest e a s = let none = s e in cc
untold_at set n n' true t (u ∷ us) rest e a s = let other = apart_has n' n (terminal u) a (s e) in rw (e, other) refl

untold : (e : Bool) (f set n n' : List Terminal) (us rest : List Lexeme) → Begins e f us → apart n' n ≡ true → (starts set us ≡ true → Begins false n' (drop 1 us))
    → (e ≡ true → starts set rest ≡ false) → starts_two set n (us ++ rest) ≡ false
untold e f set n n' [] rest b a s none = rw (none b) refl
untold e f set n n' (t ∷ us) rest b a s none = untold_at set n n' (has set (terminal t)) t us rest refl a s

-- one alternative begins with a token of `set` and one of `n` behind it, and the other never so
pub either_two : {A : Type 0} {P Q : Rule A} {p q : Parser A} {f1 m1 f2 m2 : List Terminal} (set n : List Terminal) {n' : List Terminal}
    → Reading P p false f1 m1 → Follows P set false n → Reading Q q false f2 m2 → Follows Q set false n' → covers f1 set ≡ true → apart n' n ≡ true
    → Reading (rule.◌∣◌ P Q) (reader.choose_if (starts_two set n) p q) false (f1 ++ f2) (m1 ++ m2)
either_two {f1 = f1} {f2 = f2} set n {n' = n'} rp sp rq sq c a =
    either_if (starts_two set n) rp rq (λ us rest x w. told f1 set n us rest (rp.begins us x w) c (sp.second us x w))
    (λ us rest x w s. untold false f2 set n n' us rest (rq.begins us x w) a (sq.second us x w) (λ e. cc))
