-- A loop that reads items, beside `many`.
use Rattle.std.proofs.Common.{◌≡◌, ◌≢◌, ℕ, zero, suc, ◌<◌, ◌≤◌, Bool, true, false, if◌then◌else◌, List, [], ◌∷◌, ◌++◌, length, refl, sym, ◌∙◌, ap, append_assoc, append-nil, arith, length-append, Some, None}
use Rattle.elm_base.specs.declared.memory.Halt.{Halt}
use Rattle.elm_base.specs.declared.memory.Halt.TheVariants as halt
use Rattle.elm_base.specs.Lexemes.{Lexeme}
use Rattle.grammar.specs.declared.cursor.NoTree.{NoTree}
use Rattle.grammar.specs.declared.terminal.Terminal.{Terminal}
use Rattle.grammar.specs.Rules.{Rule}
use Rattle.grammar.specs.Reader.{Outcome, Parser, and_then, turns, with_front}
use Rattle.grammar.proofs.Laws.{Reading, some_of}

-- it takes at least one token
abbrev pub Takes : {A : Type 0} → Parser A → Type 0
Takes {A} p = (ts rest : List Lexeme) (x : A) → p ts ≡ Some (x, rest) → length rest < length ts

pub takes : {A : Type 0} {P : Rule A} {p : Parser A} {f m : List Terminal} → Reading P p false f m → Takes p
takes {f = f} r ts rest x e =
    let s = r.sound.reads ts rest x e in
    omega (arith, some_of f s.0 (r.begins s.0 x s.2), ap length s.1, length-append s.0 rest)

module _ {A : Type 0} (test : List Lexeme → Bool) (p : Parser A) where
  one : ℕ → Parser (List A)
  one n ts = if test ts then and_then (p ts) (λ x us. and_then (turns test p n us) (λ xs vs. Some (x ∷ xs, vs))) else Some ([], ts)

  unrolled : (n : ℕ) (ts : List Lexeme) → turns test p (suc n) ts ≡ one n ts
  unfolding one
  unrolled n ts = go (p ts) (test ts)
    where
      go : (r : Outcome A) (b : Bool)
          → (if b then and_then {A = A × List A} (and_then r (λ a us. and_then (turns test p n us) (λ c vs. Some ((a, c), vs)))) (λ x us. Some (x.0 ∷ x.1, us)) else Some ([], ts))
          ≡ (if b then and_then r (λ x us. and_then (turns test p n us) (λ xs vs. Some (x ∷ xs, vs))) else Some ([], ts))
      go r false = refl
      go None true = refl
      go (Some x) true = inner (turns test p n x.1)
        where
          inner : (q : Outcome (List A)) → and_then {A = A × List A} (and_then q (λ c vs. Some ((x.0, c), vs))) (λ x us. Some (x.0 ∷ x.1, us)) ≡ and_then q (λ xs vs. Some (x.0 ∷ xs, vs))
          inner (Some c) = refl
          inner None = refl

  -- all turns that there may be
  abbrev pub all_turns : Parser (List A)
  all_turns ts = turns test p (length ts) ts

  module _ (none : test [] ≡ false) (t : Takes p) where
    -- any number of turns that is enough gives the same
    same_turns : (n k : ℕ) (ts : List Lexeme) → length ts ≤ n → length ts ≤ k → turns test p n ts ≡ turns test p k ts
    unfolding one
    same_turns zero zero ts l h = refl
    same_turns zero (suc k) [] l h = rw none
    same_turns zero (suc k) (u ∷ ts) l h = absurd (omega arith)
    same_turns (suc n) zero [] l h = rw none
    same_turns (suc n) zero (u ∷ ts) l h = absurd (omega arith)
    same_turns (suc n) (suc k) ts l h = unrolled n ts ∙ go (λ us a b. same_turns n k us a b) (test ts) (p ts) refl ∙ sym (unrolled k ts)
      where
        go : ((us : List Lexeme) → length us ≤ n → length us ≤ k → turns test p n us ≡ turns test p k us) → (b : Bool) (r : Outcome A) → p ts ≡ r
            → (if b then and_then r (λ x us. and_then (turns test p n us) (λ xs vs. Some (x ∷ xs, vs))) else Some ([], ts))
            ≡ (if b then and_then r (λ x us. and_then (turns test p k us) (λ xs vs. Some (x ∷ xs, vs))) else Some ([], ts))
        go ih false r e = refl
        go ih true None e = refl
        go ih true (Some x) e =
            let less = t ts x.1 x.0 e in
            ap (λ z. and_then z (λ xs vs. Some (x.0 ∷ xs, vs))) (ih x.1 (omega arith) (omega arith))

    turn : (ts : List Lexeme) → test ts ≡ true → all_turns ts ≡ and_then (p ts) (λ x us. and_then (all_turns us) (λ xs vs. Some (x ∷ xs, vs)))
    unfolding one
    turn [] s = cc
    turn (u ∷ ts) s = unrolled (length ts) (u ∷ ts) ∙ rw s (go (p (u ∷ ts)) refl)
      where
        go : (r : Outcome A) → p (u ∷ ts) ≡ r
            → and_then r (λ x us. and_then (turns test p (length ts) us) (λ xs vs. Some (x ∷ xs, vs))) ≡ and_then r (λ x us. and_then (turns test p (length us) us) (λ xs vs. Some (x ∷ xs, vs)))
        go None e = refl
        go (Some x) e =
            let less = t (u ∷ ts) x.1 x.0 e in
            ap (λ z. and_then z (λ xs vs. Some (x.0 ∷ xs, vs))) (same_turns (length ts) (length x.1) x.1 (omega arith) (omega arith))

    pub loop_turn : {whole : Outcome (List A)} (found : List A) (x : A) (ts rest : List Lexeme) → test ts ≡ true → p ts ≡ Some (x, rest)
        → whole ≡ with_front found (all_turns ts) → whole ≡ with_front (found ++ x ∷ []) (all_turns rest)
    loop_turn found x ts rest s e w = w ∙ ap (with_front found) (turn ts s ∙ ap (λ z. and_then z (λ x us. and_then (all_turns us) (λ xs vs. Some (x ∷ xs, vs)))) e) ∙ go (all_turns rest)
      where
        go : (q : Outcome (List A)) → with_front found (and_then q (λ xs vs. Some (x ∷ xs, vs))) ≡ with_front (found ++ x ∷ []) q
        go None = refl
        go (Some q) = ap (λ z. Some (z, q.1)) (sym (append_assoc found (x ∷ []) q.0))

    pub loop_err : {whole : Outcome (List A)} (found : List A) (d : Halt NoTree) (ts : List Lexeme) → test ts ≡ true → (d ≢ halt.NoMemory → p ts ≡ None)
        → whole ≡ with_front found (all_turns ts) → d ≢ halt.NoMemory → whole ≡ None
    loop_err found d ts s e w h = w ∙ ap (with_front found) (turn ts s ∙ ap (λ z. and_then z (λ x us. and_then (all_turns us) (λ xs vs. Some (x ∷ xs, vs)))) (e h))

  pub loop_ends : {whole : Outcome (List A)} (found : List A) (ts : List Lexeme) → test ts ≡ false
      → whole ≡ with_front found (all_turns ts) → whole ≡ Some (found, ts)
  loop_ends found ts s w = w ∙ ap (with_front found) (stop (length ts)) ∙ ap (λ z. Some (z, ts)) (append-nil found)
    where
      stop : (n : ℕ) → turns test p n ts ≡ Some ([], ts)
      stop zero = refl
      stop (suc n) = rw s
