-- The law of values with others between, of which the last may be of a second kind.
use Rattle.std.proofs.Common.{◌≡◌, ℕ, zero, suc, ◌≤◌, Bool, true, false, if◌then◌else◌, inl, inr, ⊎_elim, List, [], ◌∷◌, ◌++◌, length, refl, sym, ◌∙◌, ap, subst, append_assoc, append-nil, arith, length-append, Some}
use Rattle.elm_base.specs.Lexemes.{Lexeme}
use Rattle.grammar.specs.declared.terminal.Terminal.{Terminal}
use Rattle.grammar.specs.Terminals.{terminal, starts}
use Rattle.grammar.specs.Rules as rule
use Rattle.grammar.specs.Rules.{Rule}
use Rattle.grammar.specs.Reader as reader
use Rattle.grammar.specs.Reader.{Outcome, Parser, and_then}
use Rattle.grammar.proofs.Laws.{Reading, Begins, ok_same, then_ok, apart, apart_has, starts_of, some_of, starts-append, begins_more}
use Rattle.grammar.proofs.Ends.{Ends, Last, always, later, any_last}

module _ {A B : Type 0} {O : Rule A} {P Q : Rule B} {o : Parser A} {p q : Parser B} {fo mo fp mp fq mq : List Terminal}
    (ro : Reading O o false fo mo) (rp : Reading P p false fp mp) (rq : Reading Q q false fq mq)
    (after_o : apart fp mo ≡ true) (after_o' : apart fq mo ≡ true) (after_p : apart fo mp ≡ true) (other : apart fp fq ≡ true) where
  abbrev Read : List Lexeme → List Lexeme → List (A × B) → Type 0
  Read ts rest xs = (us : List Lexeme) × (ts ≡ us ++ rest) × rule.linked O P Q us xs

  -- what is read behind one that stands between, by whether the last form follows
  abbrev one : ℕ → A → Bool → Parser (List (A × B))
  one n a b us = if b then and_then (q us) (λ b vs. Some ((a, b) ∷ [], vs))
      else and_then (p us) (λ b vs. and_then (reader.links fo fq o p q n vs) (λ rest ws. Some ((a, b) ∷ rest, ws)))

  behind : (n : ℕ) → ((ts rest : List Lexeme) (xs : List (A × B)) → reader.links fo fq o p q n ts ≡ Some (xs, rest) → Read ts rest xs)
      → (ts front us rest : List Lexeme) (a : A) (xs : List (A × B)) (b : Bool) → ts ≡ front ++ us → O front a → one n a b us ≡ Some (xs, rest) → Read ts rest xs
  behind n ih ts front us rest a xs true e w h =
      let c = then_ok (q us) (λ b vs. Some ((a, b) ∷ [], vs)) (xs, rest) h in
      let s = rq.sound.reads us c.0.1 c.0.0 c.1 in
      let is = ok_same c.2 in (
        front ++ s.0,
        e ∙ ap (λ z. front ++ z) s.1 ∙ sym (append_assoc front s.0 c.0.1) ∙ ap (λ z. (front ++ s.0) ++ z.1) is,
        subst (λ (z : List (A × B) × List Lexeme). rule.linked O P Q (front ++ s.0) z.0) is (front, s.0, [], ap (λ z. front ++ z) (sym (append-nil s.0)), w, inr (s.2, refl, refl)),
      )
  behind n ih ts front us rest a xs false e w h =
      let c = then_ok (p us) (λ b vs. and_then (reader.links fo fq o p q n vs) (λ rest ws. Some ((a, b) ∷ rest, ws))) (xs, rest) h in
      let d = then_ok (reader.links fo fq o p q n c.0.1) (λ rest ws. Some ((a, c.0.0) ∷ rest, ws)) (xs, rest) c.2 in
      let s = rp.sound.reads us c.0.1 c.0.0 c.1 in
      let t = ih c.0.1 d.0.1 d.0.0 d.1 in
      let is = ok_same d.2 in (
        front ++ (s.0 ++ t.0),
        e ∙ ap (λ z. front ++ z) (s.1 ∙ ap (λ z. s.0 ++ z) t.1 ∙ sym (append_assoc s.0 t.0 d.0.1)) ∙ sym (append_assoc front (s.0 ++ t.0) d.0.1) ∙ ap (λ z. (front ++ (s.0 ++ t.0)) ++ z.1) is,
        subst (λ (z : List (A × B) × List Lexeme). rule.linked O P Q (front ++ (s.0 ++ t.0)) z.0) is (front, s.0, t.0, refl, w, inl (s.2, t.2)),
      )

  linked_sound : (n : ℕ) (ts rest : List Lexeme) (xs : List (A × B)) → reader.links fo fq o p q n ts ≡ Some (xs, rest) → Read ts rest xs
  linked_sound zero ts rest xs h = let is = ok_same h in ([], ap (λ z. z.1) is, subst (λ (z : List (A × B)). rule.linked O P Q [] z) (ap (λ z. z.0) is) refl)
  linked_sound (suc n) ts rest xs h = go (linked_sound n) (starts fo ts) h
    where
      go : ((ts rest : List Lexeme) (xs : List (A × B)) → reader.links fo fq o p q n ts ≡ Some (xs, rest) → Read ts rest xs)
          → (b : Bool) → (if b then and_then (o ts) (λ a us. one n a (starts fq us) us) else Some ([], ts)) ≡ Some (xs, rest) → Read ts rest xs
      go ih true h =
          let a = then_ok (o ts) (λ a us. one n a (starts fq us) us) (xs, rest) h in
          let s = ro.sound.reads ts a.0.1 a.0.0 a.1 in
          behind n ih ts s.0 a.0.1 rest a.0.0 xs (starts fq a.0.1) s.1 s.2 a.2
      go ih false h = let is = ok_same h in ([], ap (λ z. z.1) is, subst (λ (z : List (A × B)). rule.linked O P Q [] z) (ap (λ z. z.0) is) refl)

  -- ---- the other way round

  stops : (f m : List Terminal) (us rest : List Lexeme) → Begins false f us → apart f m ≡ true → starts m (us ++ rest) ≡ false
  stops f m [] rest b a = cc
  stops f m (t ∷ us) rest b a = apart_has f m (terminal t) a b

  linked_begins : (us : List Lexeme) (xs : List (A × B)) → rule.linked O P Q us xs → Begins true fo us
  linked_begins us [] w = rw w refl
  linked_begins us (x ∷ xs) w = rw w.3 (begins_more fo w.0 (w.1 ++ w.2) (ro.begins w.0 x.0 w.4))

  goes_on : (us rest : List Lexeme) (m : List Terminal) → Begins true fo us → apart fo m ≡ true → starts m rest ≡ false → starts m (us ++ rest) ≡ false
  goes_on [] rest m b a s = s
  goes_on (t ∷ us) rest m b a s = apart_has fo m (terminal t) a b

  one_more : (n : ℕ) (a : A) (b : B) (xs : List (A × B)) (ts us vs rest : List Lexeme) → starts fo ts ≡ true → o ts ≡ Some (a, us) → starts fq us ≡ false → p us ≡ Some (b, vs)
      → reader.links fo fq o p q n vs ≡ Some (xs, rest) → reader.links fo fq o p q (suc n) ts ≡ Some ((a, b) ∷ xs, rest)
  one_more n a b xs ts us vs rest h i j k l = rw (h, i, j, k, l)

  one_last : (n : ℕ) (a : A) (b : B) (ts us rest : List Lexeme) → starts fo ts ≡ true → o ts ≡ Some (a, us) → starts fq us ≡ true → q us ≡ Some (b, rest)
      → reader.links fo fq o p q (suc n) ts ≡ Some ((a, b) ∷ [], rest)
  one_last n a b ts us rest h i j k = rw (h, i, j, k)

  -- where the last link passes a test with which fewer terminals may go on
  module _ {C : B → Type 0} {m : List Terminal} (ends : Ends Q q C m) where
    links_end : (n : ℕ) (xs : List (A × B)) (us rest : List Lexeme) → rule.linked O P Q us xs → Last (λ x. C x.1) xs → length us ≤ n
        → starts fo rest ≡ false → starts mp rest ≡ false → starts m rest ≡ false → reader.links fo fq o p q n (us ++ rest) ≡ Some (xs, rest)
    links_end zero [] us rest w c l so sp sq = rw w refl
    links_end (suc n) [] us rest w c l so sp sq = rw (w, so) refl
    links_end zero (x ∷ xs) us rest w c l so sp sq =
        absurd (omega (arith, some_of fo w.0 (ro.begins w.0 x.0 w.4), ap length w.3, length-append w.0 (w.1 ++ w.2)))
    links_end (suc n) (x ∷ xs) us rest w c l so sp sq =
        let whole : us ++ rest ≡ w.0 ++ (w.1 ++ (w.2 ++ rest)) =
        ap (λ z. z ++ rest) w.3 ∙ append_assoc w.0 (w.1 ++ w.2) rest ∙ ap (λ z. w.0 ++ z) (append_assoc w.1 w.2 rest) in
        let begun = starts_of fo w.0 (w.1 ++ (w.2 ++ rest)) (ro.begins w.0 x.0 w.4) in
        let short : length w.2 ≤ n = omega (arith, some_of fo w.0 (ro.begins w.0 x.0 w.4), ap length w.3, length-append w.0 (w.1 ++ w.2), length-append w.1 w.2) in
        subst (λ (z : List Lexeme). reader.links fo fq o p q (suc n) z ≡ Some (x ∷ xs, rest)) (sym whole)
        (⊎_elim
        (λ (h : P w.1 x.1 × rule.linked O P Q w.2 xs).
        let b = rp.begins w.1 x.1 h.0 in
        one_more n x.0 x.1 xs _ (w.1 ++ (w.2 ++ rest)) (w.2 ++ rest) rest begun (ro.complete w.0 (w.1 ++ (w.2 ++ rest)) x.0 w.4 (stops fp mo w.1 (w.2 ++ rest) b after_o))
        (stops fp fq w.1 (w.2 ++ rest) b other) (rp.complete w.1 (w.2 ++ rest) x.1 h.0 (goes_on w.2 rest mp (linked_begins w.2 xs h.1) after_p sp))
        (links_end n xs w.2 rest h.1 (later (λ (x : A × B). C x.1) x xs c) short so sp sq))
        (λ (h : Q w.1 x.1 × (w.2 ≡ []) × (xs ≡ [])).
        let b = rq.begins w.1 x.1 h.0 in
        let passes : C x.1 = subst (λ (z : List (A × B)). Last (λ (x : A × B). C x.1) (x ∷ z)) h.2 c in
        let none : w.2 ++ rest ≡ rest = ap (λ z. z ++ rest) h.1 in
        let one = one_last n x.0 x.1 (w.0 ++ (w.1 ++ rest)) (w.1 ++ rest) rest (starts_of fo w.0 (w.1 ++ rest) (ro.begins w.0 x.0 w.4))
        (ro.complete w.0 (w.1 ++ rest) x.0 w.4 (stops fq mo w.1 rest b after_o')) (starts_of fq w.1 rest b) (ends.complete w.1 rest x.1 h.0 passes sq) in
        rw (none, h.2) one)
        w.5)

    pub linked_ends : Ends (rule.linked O P Q) (reader.linked fo fq o p q) (Last (λ x. C x.1)) (fo ++ (mp ++ m))
    unfolding reader.linked
    linked_ends = record {
      complete = λ us rest xs w c s.
          let first = starts-append fo (mp ++ m) rest s in
          let second = starts-append mp m rest first.1 in
          links_end (length (us ++ rest)) xs us rest w c (omega (arith, length-append us rest)) first.0 second.0 second.1;
    }

  pub linked : Reading (rule.linked O P Q) (reader.linked fo fq o p q) true fo (fo ++ (mp ++ mq))
  unfolding reader.linked
  linked = record {
    sound = record { reads = λ ts rest xs h. linked_sound (length ts) ts rest xs h };
    complete = λ us rest xs w s. let r = linked_ends {C = λ x. Unit {0}} (always rq) in r.complete us rest xs w (any_last xs) s;
    begins = linked_begins;
  }
