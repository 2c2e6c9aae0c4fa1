-- A loop that reads values with others between, of which the last may be of a second kind, beside `linked`.
use Rattle.std.proofs.Common.{◌≡◌, ◌≢◌, ℕ, zero, suc, ◌<◌, ◌≤◌, Bool, true, false, if◌then◌else◌, List, [], ◌∷◌, ◌++◌, length, refl, sym, ◌∙◌, ap, append_assoc, append-nil, arith, Some, None}
use Rattle.elm_base.specs.declared.memory.Halt.{Halt}
use Rattle.elm_base.specs.declared.memory.Halt.TheVariants as halt
use Rattle.elm_base.specs.Lexemes.{Lexeme}
use Rattle.grammar.specs.declared.cursor.NoTree.{NoTree}
use Rattle.grammar.specs.declared.terminal.Terminal.{Terminal}
use Rattle.grammar.specs.Terminals.{starts}
use Rattle.grammar.specs.Reader.{Outcome, Parser, and_then, choose, links, with_front}
use Rattle.grammar.proofs.Turns.{Takes}

pub with_none : {A : Type 0} (r : Outcome (List A)) → r ≡ with_front [] r
with_none (Some x) = refl
with_none None = refl

module _ {A B : Type 0} (between last : List Terminal) (o : Parser A) (p q : Parser B) where
  -- what is read behind one that stands between, by whether the last form follows
  abbrev behind : ℕ → A → Bool → Parser (List (A × B))
  behind n a b us = if b then and_then (q us) (λ b vs. Some ((a, b) ∷ [], vs))
      else and_then (p us) (λ b vs. and_then (links between last o p q n vs) (λ rest ws. Some ((a, b) ∷ rest, ws)))

  abbrev pub all_links : Parser (List (A × B))
  all_links ts = links between last o p q (length ts) ts

  unrolled : (n : ℕ) (ts : List Lexeme) → starts between ts ≡ true → links between last o p q (suc n) ts ≡ and_then (o ts) (λ a us. behind n a (starts last us) us)
  unrolled n ts s = rw s

  -- where one stands between, a token is left, so there is a turn
  turn_of : (ts : List Lexeme) (a : A) (us : List Lexeme) → starts between ts ≡ true → o ts ≡ Some (a, us)
      → (n : ℕ) × (length ts ≡ suc n) × (all_links ts ≡ behind n a (starts last us) us)
  turn_of [] a us s e = cc
  turn_of (t ∷ ts) a us s e = (length ts, refl, unrolled (length ts) (t ∷ ts) s ∙ rw e)

  pub links_last : {whole : Outcome (List (A × B))} (found : List (A × B)) (a : A) (b : B) (ts us rest : List Lexeme)
      → starts between ts ≡ true → o ts ≡ Some (a, us) → starts last us ≡ true → q us ≡ Some (b, rest)
      → whole ≡ with_front found (all_links ts) → whole ≡ Some (found ++ (a, b) ∷ [], rest)
  links_last found a b ts us rest s e l h w = let t = turn_of ts a us s e in w ∙ rw (t.2, l, h)

  pub links_err_between : {whole : Outcome (List (A × B))} (found : List (A × B)) (d : Halt NoTree) (ts : List Lexeme)
      → starts between ts ≡ true → (d ≢ halt.NoMemory → o ts ≡ None) → whole ≡ with_front found (all_links ts) → d ≢ halt.NoMemory → whole ≡ None
  links_err_between found d [] s e w h = cc
  links_err_between found d (t ∷ ts) s e w h = w ∙ ap (with_front found) (unrolled (length ts) (t ∷ ts) s ∙ ap (λ z. and_then z (λ a us. behind (length ts) a (starts last us) us)) (e h))

  pub links_err_behind : {whole : Outcome (List (A × B))} (found : List (A × B)) (d : Halt NoTree) (a : A) (ts us : List Lexeme)
      → starts between ts ≡ true → o ts ≡ Some (a, us) → (d ≢ halt.NoMemory → choose last q p us ≡ None)
      → whole ≡ with_front found (all_links ts) → d ≢ halt.NoMemory → whole ≡ None
  links_err_behind found d a ts us s e k w h = let t = turn_of ts a us s e in w ∙ ap (with_front found) t.2 ∙ go (starts last us) t.0 (k h)
    where
      go : (b : Bool) (n : ℕ) → (if b then q us else p us) ≡ None → with_front found (behind n a b us) ≡ None
      go true n e = rw e
      go false n e = rw e

  pub links_end : {whole : Outcome (List (A × B))} (found : List (A × B)) (ts : List Lexeme) → starts between ts ≡ false
      → whole ≡ with_front found (all_links ts) → whole ≡ Some (found, ts)
  links_end found ts s w = w ∙ ap (with_front found) (stop (length ts)) ∙ ap (λ z. Some (z, ts)) (append-nil found)
    where
      stop : (n : ℕ) → links between last o p q n ts ≡ Some ([], ts)
      stop zero = refl
      stop (suc n) = rw s

  module _ (to : Takes o) (tp : Takes p) where
    pub links_smaller : (a : A) (b : B) (ts us vs : List Lexeme) → o ts ≡ Some (a, us) → p us ≡ Some (b, vs) → length vs < length ts
    links_smaller a b ts us vs e h = let l = to ts us a e in let k = tp us vs b h in omega arith

    -- any number of turns that is enough gives the same
    same_links : (n k : ℕ) (ts : List Lexeme) → length ts ≤ n → length ts ≤ k → links between last o p q n ts ≡ links between last o p q k ts
    same_links zero zero ts l h = refl
    same_links zero (suc k) [] l h = refl
    same_links zero (suc k) (u ∷ ts) l h = absurd (omega arith)
    same_links (suc n) zero [] l h = refl
    same_links (suc n) zero (u ∷ ts) l h = absurd (omega arith)
    same_links (suc n) (suc k) ts l h = go (λ us a b. same_links n k us a b) (starts between ts) (o ts) refl
      where
        next : ((us : List Lexeme) → length us ≤ n → length us ≤ k → links between last o p q n us ≡ links between last o p q k us)
            → (a : A) (us : List Lexeme) → o ts ≡ Some (a, us) → (b : Bool) (r : Outcome B) → p us ≡ r
            → (if b then and_then (q us) (λ b vs. Some ((a, b) ∷ [], vs)) else and_then r (λ b vs. and_then (links between last o p q n vs) (λ rest ws. Some ((a, b) ∷ rest, ws))))
            ≡ (if b then and_then (q us) (λ b vs. Some ((a, b) ∷ [], vs)) else and_then r (λ b vs. and_then (links between last o p q k vs) (λ rest ws. Some ((a, b) ∷ rest, ws))))
        next ih a us e true r w = refl
        next ih a us e false None w = refl
        next ih a us e false (Some x) w =
            let less = links_smaller a x.0 ts us x.1 e w in
            ap (λ z. and_then z (λ rest ws. Some ((a, x.0) ∷ rest, ws))) (ih x.1 (omega arith) (omega arith))

        go : ((us : List Lexeme) → length us ≤ n → length us ≤ k → links between last o p q n us ≡ links between last o p q k us) → (b : Bool) (r : Outcome A) → o ts ≡ r
            → (if b then and_then r (λ a us. behind n a (starts last us) us) else Some ([], ts)) ≡ (if b then and_then r (λ a us. behind k a (starts last us) us) else Some ([], ts))
        go ih false r e = refl
        go ih true None e = refl
        go ih true (Some x) e = next ih x.0 x.1 e (starts last x.1) (p x.1) refl

    pub links_turn : {whole : Outcome (List (A × B))} (found : List (A × B)) (a : A) (b : B) (ts us rest : List Lexeme)
        → starts between ts ≡ true → o ts ≡ Some (a, us) → starts last us ≡ false → p us ≡ Some (b, rest)
        → whole ≡ with_front found (all_links ts) → whole ≡ with_front (found ++ (a, b) ∷ []) (all_links rest)
    links_turn found a b ts us rest s e l h w =
        let t = turn_of ts a us s e in
        let less = links_smaller a b ts us rest e h in
        let count = t.1 in
        let same_ = same_links t.0 (length rest) rest (omega arith) (omega arith) in
        w ∙ ap (with_front found) (t.2 ∙ rw (l, h, same_)) ∙ go (all_links rest)
      where
        go : (r : Outcome (List (A × B))) → with_front found (and_then r (λ rest ws. Some ((a, b) ∷ rest, ws))) ≡ with_front (found ++ (a, b) ∷ []) r
        go None = refl
        go (Some x) = ap (λ z. Some (z, x.1)) (sym (append_assoc found ((a, b) ∷ []) x.0))

-- what a choice reads, where the first token is of the set, and where it isn't
pub chosen_first : {A : Type 0} (set : List Terminal) (p q : Parser A) (ts : List Lexeme) (r : Outcome A) → starts set ts ≡ true → choose set p q ts ≡ r → p ts ≡ r
chosen_first set p q ts r s e = rw s at e

pub chosen_second : {A : Type 0} (set : List Terminal) (p q : Parser A) (ts : List Lexeme) (r : Outcome A) → starts set ts ≡ false → choose set p q ts ≡ r → q ts ≡ r
chosen_second set p q ts r s e = rw s at e
