-- What a rule takes with a bound on its value, another takes as well. So a tree derives at any depth that its nesting needs.
use Rattle.std.proofs.Common.{ℕ, ◌≡◌, ⊎_elim, inl, inr, List, [], ◌∷◌, Bool, subst}
use Rattle.elm_base.specs.Lexemes.{Lexeme}
use Rattle.tree_nesting.proofs.Each.{Each}
use Rattle.grammar.specs.Rules as rule
use Rattle.grammar.specs.Rules.{Rule}

pub record Shallow {A : Type 0} (P P' : Rule A) (B : A → Type 0) : Type 0 where
  pub takes : (ts : List Lexeme) (x : A) → P ts x → B x → P' ts x

pub same : {A : Type 0} (P : Rule A) {B : A → Type 0} → Shallow P P B
same P = record { takes = λ ts x w b. w }

pub when : {A : Type 0} {P P' : Rule A} {B C : A → Type 0} → ((x : A) → C x → B x) → Shallow P P' B → Shallow P P' C
when h s = record { takes = λ ts x w c. s.takes ts x w (h x c) }

pub seq : {A B : Type 0} {P P' : Rule A} {Q Q' : Rule B} {C : A → Type 0} {D : B → Type 0} → Shallow P P' C → Shallow Q Q' D
    → Shallow (rule.◌⊗◌ P Q) (rule.◌⊗◌ P' Q') (λ x. C x.0 × D x.1)
seq s t = record { takes = λ ts x w b. (w.0, w.1, w.2, s.takes w.0 x.0 w.3 b.0, t.takes w.1 x.1 w.4 b.1) }

pub by : {A B : Type 0} {P P' : Rule A} {C : B → Type 0} (f : A → B) → Shallow P P' (λ x. C (f x)) → Shallow (rule.◌<$>◌ f P) (rule.◌<$>◌ f P') C
by {C = C} f s = record { takes = λ ts y w b. (w.0, s.takes ts w.0 w.1 (subst C w.2 b), w.2) }

pub either : {A : Type 0} {P P' Q Q' : Rule A} {B : A → Type 0} → Shallow P P' B → Shallow Q Q' B → Shallow (rule.◌∣◌ P Q) (rule.◌∣◌ P' Q') B
either s t = record { takes = λ ts x w b. ⊎_elim (λ h. inl (s.takes ts x h b)) (λ h. inr (t.takes ts x h b)) w }

pub only : {A : Type 0} {P P' : Rule A} {B : A → Type 0} (test : A → Bool) → Shallow P P' B → Shallow (rule.only test P) (rule.only test P') B
only test s = record { takes = λ ts x w b. (s.takes ts x w.0 b, w.1) }

pub at : {A : Type 0} {P P' : Rule A} {B : A → Type 0} → Shallow P P' B → Shallow (rule.at P) (rule.at P') (λ x. B x.1)
at s = record { takes = λ ts x w b. (w.0, s.takes ts x.1 w.1 b) }

-- each of the values has its bound
pub many : {A : Type 0} {P P' : Rule A} {B : A → Type 0} → Shallow P P' B → Shallow (rule.many P) (rule.many P') (Each B)
many {A} {P} {P'} {B} s = record { takes = takes }
  where
    takes : (ts : List Lexeme) (xs : List A) → rule.many P ts xs → Each B xs → rule.many P' ts xs
    takes ts [] w b = w
    takes ts (x ∷ xs) w b = (w.0, w.1, w.2, s.takes w.0 x w.3 b.0, takes w.1 xs w.4 b.1)

-- behind or before a mark
pub after : {A B : Type 0} (M : Rule A) {Q Q' : Rule B} {D : B → Type 0} → Shallow Q Q' D → Shallow (rule.◌▷◌ M Q) (rule.◌▷◌ M Q') D
after M {D = D} t = by (λ x. x.1) (when (λ x d. (tt, d)) (seq (same M {B = λ x. Unit {0}}) t))

pub before : {A B : Type 0} (M : Rule B) {P P' : Rule A} {C : A → Type 0} → Shallow P P' C → Shallow (rule.◌◁◌ P M) (rule.◌◁◌ P' M) C
before M s = by (λ x. x.0) (when (λ x c. (c, tt)) (seq s (same M {B = λ x. Unit {0}})))

pub separated : {A : Type 0} {P P' : Rule A} {B : A → Type 0} → Shallow P P' B → Shallow (rule.separated P) (rule.separated P') (Each B)
separated s = by (λ x. x.0 ∷ x.1) (when (λ x b. b) (seq s (many (after _ s))))

pub some : {A : Type 0} {P P' : Rule A} {B : A → Type 0} → Shallow P P' B → Shallow (rule.some P) (rule.some P') (Each B)
some s = by (λ x. x.0 ∷ x.1) (when (λ x b. b) (seq s (many s)))

-- what all values of a rule are like
pub record Values {A : Type 0} (P : Rule A) (V : A → Type 0) : Type 0 where
  pub are : (ts : List Lexeme) (x : A) → P ts x → V x

pub knowing : {A : Type 0} {P P' : Rule A} {B C V : A → Type 0} → Values P V → ((x : A) → V x → C x → B x) → Shallow P P' B → Shallow P P' C
knowing v h s = record { takes = λ ts x w c. s.takes ts x w (h x (v.are ts x w) c) }

pub linked : {A B : Type 0} (O : Rule A) {P P' Q Q' : Rule B} {C : B → Type 0} → Shallow P P' C → Shallow Q Q' C
    → Shallow (rule.linked O P Q) (rule.linked O P' Q') (λ xs. Each (λ x. C x.1) xs)
linked {A} {B} O {P} {P'} {Q} {Q'} {C} s t = record { takes = takes }
  where
    takes : (ts : List Lexeme) (xs : List (A × B)) → rule.linked O P Q ts xs → Each (λ x. C x.1) xs → rule.linked O P' Q' ts xs
    takes ts [] w b = w
    takes ts (x ∷ xs) w b = (
      w.0,
      w.1,
      w.2,
      w.3,
      w.4,
      ⊎_elim (λ (h : P w.1 x.1 × rule.linked O P Q w.2 xs). inl (s.takes w.1 x.1 h.0 b.0, takes w.2 xs h.1 b.1))
          (λ (h : Q w.1 x.1 × (w.2 ≡ []) × (xs ≡ [])). inr (t.takes w.1 x.1 h.0 b.0, h.1, h.2)) w.5,
    )

pub item : {A : Type 0} {P P' : Rule A} {B : A → Type 0} (column : ℕ) → Shallow P P' B → Shallow (rule.item column P) (rule.item column P') B
item column s = record { takes = λ ts x w b. (w.0, s.takes ts x w.1 b) }

pub block : {A : Type 0} {P P' : Rule A} {B : A → Type 0} → Shallow P P' B → Shallow (rule.block P) (rule.block P') (Each B)
block {A} {P} {P'} {B} s = record { takes = λ ts xs w b. (w.0, let items = by {C = Each B} (λ (x : A × List A). x.0 ∷ x.1) (when (λ x c. c) (seq (item w.0 s) (many (item w.0 s)))) in items.takes ts xs w.1 b) }
