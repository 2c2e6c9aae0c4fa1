-- The algebra of rows with scoped labels.
use Rattle.std.proofs.Common.{◌≡◌, ◌≢◌, ◌↔◌, ℕ, true, false, cond, Option, List, [], ◌∷◌, ◌++◌, refl, sym, ◌∙◌, ap, inl, inr}
use Rattle.elm_typing.specs.Ground.{Ground, Row, Ends, Field}
use Rattle.elm_typing.specs.Labels.{is_after}
use Rattle.elm_typing.specs.Rows.{extended, extended_all, Lacks, Apart}
use Rattle.elm_typing.proofs.LabelOrder.{decided, after_asymmetric, at_most_trans, before_trans, before_differs, either_before}

pub front : (l : List ℕ) (t : Ground) (m : List ℕ) (u : Ground) (r : Row) → is_after l m ≡ false → extended l t (Field m u r) ≡ Field l t (Field m u r)
front l t m u r h = ap (λ b. cond b (Field m u (extended l t r)) (Field l t (Field m u r))) h

pub past : (l : List ℕ) (t : Ground) (m : List ℕ) (u : Ground) (r : Row) → is_after l m ≡ true → extended l t (Field m u r) ≡ Field m u (extended l t r)
past l t m u r h = ap (λ b. cond b (Field m u (extended l t r)) (Field l t (Field m u r))) h

below : (l m : List ℕ) (a b : Ground) (r : Row) → is_after m l ≡ true → extended l a (extended m b r) ≡ extended m b (extended l a r)
below l m a b (Ends o) lt = front l a m b (Ends o) (after_asymmetric l m lt) ∙ sym (past m b l a (Ends o) lt)
below l m a b (Field k c s) lt =
    elim (decided (is_after m k)) as (λ _. extended l a (extended m b (Field k c s)) ≡ extended m b (extended l a (Field k c s))) [
      | inr mk ↦ ap (extended l a) (front m b k c s mk) ∙ front l a m b (Field k c s) (after_asymmetric l m lt)
          ∙ sym (ap (extended m b) (front l a k c s (at_most_trans l m k (after_asymmetric l m lt) mk)) ∙ past m b l a (Field k c s) lt ∙ ap (Field l a) (front m b k c s mk))
      | inl km ↦ elim (decided (is_after l k)) as (λ _. extended l a (extended m b (Field k c s)) ≡ extended m b (extended l a (Field k c s))) [
        | inr lk ↦ ap (extended l a) (past m b k c s km) ∙ front l a k c (extended m b s) lk
            ∙ sym (ap (extended m b) (front l a k c s lk) ∙ past m b l a (Field k c s) lt ∙ ap (Field l a) (past m b k c s km))
        | inl kl ↦ ap (extended l a) (past m b k c s km) ∙ past l a k c (extended m b s) kl ∙ ap (Field k c) (below l m a b s lt)
            ∙ sym (ap (extended m b) (past l a k c s kl) ∙ past m b k c (extended l a s) km)
      ]
    ]

-- fields of different labels may be put on in either order
pub extended-extended : (l m : List ℕ) (a b : Ground) (r : Row) → l ≢ m → extended l a (extended m b r) ≡ extended m b (extended l a r)
extended-extended l m a b r ne =
    elim (either_before l m ne) as (λ _. extended l a (extended m b r) ≡ extended m b (extended l a r))
    [ inl lt ↦ below l m a b r lt | inr gt ↦ sym (below m l b a r gt) ]

label_differs : {A : Type 0} (k l : List ℕ) → is_after l k ≡ true → l ≡ k → A
label_differs k l lt e = absurd (before_differs k l lt (sym e))

-- the newest field, and what is behind it
pub extended-injective : (l : List ℕ) (a b : Ground) (r s : Row) → extended l a r ≡ extended l b s → (a ≡ b) × (r ≡ s)
extended-injective l a b (Ends o) (Ends p) e = (cc e, cc e)
extended-injective l a b (Ends o) (Field k c s) e =
    elim (decided (is_after l k)) as (λ _. (a ≡ b) × (Ends o ≡ Field k c s)) [
      | inr lk ↦ (let f = e ∙ front l b k c s lk in (cc f, cc f))
      | inl kl ↦ (let f = e ∙ past l b k c s kl in label_differs k l kl (cc f))
    ]
extended-injective l a b (Field j d r) (Ends p) e =
    elim (decided (is_after l j)) as (λ _. (a ≡ b) × (Field j d r ≡ Ends p)) [
      | inr lj ↦ (let f = sym (front l a j d r lj) ∙ e in (cc f, cc f))
      | inl jl ↦ (let f = sym (past l a j d r jl) ∙ e in let g : l ≡ j = cc f in label_differs j l jl g)
    ]
extended-injective l a b (Field j d r) (Field k c s) e =
    elim (decided (is_after l j)) as (λ _. (a ≡ b) × (Field j d r ≡ Field k c s)) [
      | inr lj ↦ elim (decided (is_after l k)) as (λ _. (a ≡ b) × (Field j d r ≡ Field k c s)) [
        | inr lk ↦ (let f = sym (front l a j d r lj) ∙ e ∙ front l b k c s lk in (cc f, cc f))
        | inl kl ↦ (let f = sym (front l a j d r lj) ∙ e ∙ past l b k c s kl in let g : l ≡ k = cc f in label_differs k l kl g)
      ]
      | inl jl ↦ elim (decided (is_after l k)) as (λ _. (a ≡ b) × (Field j d r ≡ Field k c s)) [
        | inr lk ↦ (let f = sym (past l a j d r jl) ∙ e ∙ front l b k c s lk in let g : l ≡ j = cc f in label_differs j l jl g)
        | inl kl ↦ (let f = sym (past l a j d r jl) ∙ e ∙ past l b k c s kl in
            let g : extended l a r ≡ extended l b s = cc f in
            let q = extended-injective l a b r s g in
            let x : j ≡ k = cc f in let y : d ≡ c = cc f in let z = q.1 in (q.0, cc (x, y, z)))
      ]
    ]

pub ends_apart : (o : Option ℕ) (m : List ℕ) (b : Ground) (s : Row) → Ends o ≡ extended m b s → ⊥
ends_apart o m b (Ends p) e = cc e
ends_apart o m b (Field k c s) e =
    elim (decided (is_after m k)) as (λ _. ⊥)
    [ inr mk ↦ (let f = e ∙ front m b k c s mk in cc f) | inl km ↦ (let f = e ∙ past m b k c s km in cc f) ]

at_front : (l m j : List ℕ) (a b d : Ground) (r s : Row) → is_after m l ≡ true → is_after l j ≡ false → Field j d r ≡ extended m b s → Field l a s ≡ extended l a s
at_front l m j a b d r (Ends p) lt lj e = refl
at_front l m j a b d r (Field h c s) lt lj e =
    elim (decided (is_after m h)) as (λ _. Field l a (Field h c s) ≡ extended l a (Field h c s)) [
      | inr mh ↦ sym (front l a h c s (at_most_trans l m h (after_asymmetric l m lt) mh))
      | inl hm ↦ (let f = e ∙ past m b h c s hm in let g : j ≡ h = cc f in sym (front l a h c s (ap (is_after l) (sym g) ∙ lj)))
    ]

-- two ways to see one row, by different labels
exchange-below : (l m : List ℕ) (a b : Ground) (r s : Row) → is_after m l ≡ true → extended l a r ≡ extended m b s → (q : Row) × (r ≡ extended m b q) × (s ≡ extended l a q)
exchange-below l m a b (Ends o) (Ends p) lt e = let g : m ≡ l = cc e in label_differs l m lt g
exchange-below l m a b (Ends o) (Field k c s) lt e =
    elim (decided (is_after m k)) as (λ _. (q : Row) × (Ends o ≡ extended m b q) × (Field k c s ≡ extended l a q)) [
      | inr mk ↦ (let f = e ∙ front m b k c s mk in let g : m ≡ l = cc f in label_differs l m lt g)
      | inl km ↦ (let f = e ∙ past m b k c s km in let g : Ends o ≡ extended m b s = cc f in absurd (ends_apart o m b s g))
    ]
exchange-below l m a b (Field j d r) (Ends p) lt e =
    elim (decided (is_after l j)) as (λ _. (q : Row) × (Field j d r ≡ extended m b q) × (Ends p ≡ extended l a q)) [
      | inr lj ↦ (let f = sym (front l a j d r lj) ∙ e in let g : m ≡ l = cc f in label_differs l m lt g)
      | inl jl ↦ (let f = sym (past l a j d r jl) ∙ e in let g : m ≡ j = cc f in label_differs j m (before_trans j l m jl lt) g)
    ]
exchange-below l m a b (Field j d r) (Field k c s) lt e =
    elim (decided (is_after l j)) as (λ _. (q : Row) × (Field j d r ≡ extended m b q) × (Field k c s ≡ extended l a q)) [
      | inr lj ↦ elim (decided (is_after m k)) as (λ _. (q : Row) × (Field j d r ≡ extended m b q) × (Field k c s ≡ extended l a q)) [
        | inr mk ↦ (let f = sym (front l a j d r lj) ∙ e ∙ front m b k c s mk in let g : m ≡ l = cc f in label_differs l m lt g)
        | inl km ↦ (let f = sym (front l a j d r lj) ∙ e ∙ past m b k c s km in
            let g : Field j d r ≡ extended m b s = cc f in
            let x : l ≡ k = cc f in let y : a ≡ c = cc f in
            (s, g, (let z : Field k c s ≡ Field l a s = cc (x, y) in z ∙ at_front l m j a b d r s lt lj g)))
      ]
      | inl jl ↦ elim (decided (is_after m k)) as (λ _. (q : Row) × (Field j d r ≡ extended m b q) × (Field k c s ≡ extended l a q)) [
        | inr mk ↦ (let f = sym (past l a j d r jl) ∙ e ∙ front m b k c s mk in let g : m ≡ j = cc f in label_differs j m (before_trans j l m jl lt) g)
        | inl km ↦ (let f = sym (past l a j d r jl) ∙ e ∙ past m b k c s km in
            let g : extended l a r ≡ extended m b s = cc f in
            let w = exchange-below l m a b r s lt g in
            let x : k ≡ j = cc f in let y : c ≡ d = cc f in let z = w.1 in let v = w.2 in (
              Field j d w.0,
              (let u : Field j d r ≡ Field j d (extended m b w.0) = cc z in u ∙ sym (past m b j d w.0 (before_trans j l m jl lt))),
              (let u : Field k c s ≡ Field j d (extended l a w.0) = cc (x, y, v) in u ∙ sym (past l a j d w.0 jl)),
            ))
      ]
    ]

pub exchange : (l m : List ℕ) (a b : Ground) (r s : Row) → l ≢ m → extended l a r ≡ extended m b s → (q : Row) × (r ≡ extended m b q) × (s ≡ extended l a q)
exchange l m a b r s ne e =
    elim (either_before l m ne) as (λ _. (q : Row) × (r ≡ extended m b q) × (s ≡ extended l a q)) [
      | inl lt ↦ exchange-below l m a b r s lt e
      | inr gt ↦ (let w = exchange-below m l b a s r gt (sym e) in (w.0, w.2, w.1))
    ]

-- many fields --

pub extended_all-append : (fs gs : List (List ℕ × Ground)) (r : Row) → extended_all (fs ++ gs) r ≡ extended_all fs (extended_all gs r)
extended_all-append [] gs r = refl
extended_all-append (f ∷ fs) gs r = ap (extended f.0 f.1) (extended_all-append fs gs r)

pub extended_all-extended : (l : List ℕ) (a : Ground) (fs : List (List ℕ × Ground)) (r : Row) → Lacks l fs → extended_all fs (extended l a r) ≡ extended l a (extended_all fs r)
extended_all-extended l a [] r h = refl
extended_all-extended l a (f ∷ fs) r h =
    ap (extended f.0 f.1) (extended_all-extended l a fs r h.1) ∙ sym (extended-extended l f.0 a f.1 (extended_all fs r) h.0)

pub apart_swap : (fs gs : List (List ℕ × Ground)) (r : Row) → Apart fs gs → extended_all fs (extended_all gs r) ≡ extended_all gs (extended_all fs r)
apart_swap [] gs r h = refl
apart_swap (f ∷ fs) gs r h =
    ap (extended f.0 f.1) (apart_swap fs gs r h.1) ∙ sym (extended_all-extended f.0 f.1 gs (extended_all fs r) h.0)

-- one field against many of other labels
one_other : (l : List ℕ) (a : Ground) (gs : List (List ℕ × Ground)) (x s : Row) → Lacks l gs → extended l a x ≡ extended_all gs s → (q : Row) × (s ≡ extended l a q) × (x ≡ extended_all gs q)
one_other l a [] x s h e = (x, sym e, refl)
one_other l a (g ∷ gs) x s h e =
    let w = exchange l g.0 a g.1 x (extended_all gs s) h.0 e in
    let v = one_other l a gs w.0 s h.1 (sym w.2) in
    (v.0, v.1, w.1 ∙ ap (extended g.0 g.1) v.2)

-- what is left over on both sides has one most general answer
pub apart_solve : (fs gs : List (List ℕ × Ground)) (r s : Row) → Apart fs gs → extended_all fs r ≡ extended_all gs s → (q : Row) × (r ≡ extended_all gs q) × (s ≡ extended_all fs q)
apart_solve [] gs r s h e = (s, e, refl)
apart_solve (f ∷ fs) gs r s h e =
    let w = one_other f.0 f.1 gs (extended_all fs r) s h.0 e in
    let v = apart_solve fs gs r w.0 h.1 w.2 in
    (v.0, v.1, w.1 ∙ ap (extended f.0 f.1) v.2)

pub apart_answer : (fs gs : List (List ℕ × Ground)) (r s q : Row) → Apart fs gs → r ≡ extended_all gs q → s ≡ extended_all fs q → extended_all fs r ≡ extended_all gs s
apart_answer fs gs r s q h er es = ap (extended_all fs) er ∙ apart_swap fs gs q h ∙ ap (extended_all gs) (sym es)

-- fields of one label are taken in turn, the newest first --

taken : (l : List ℕ) (b : Ground) (before after : List (List ℕ × Ground)) (s : Row) → Lacks l before →
    extended_all (before ++ (l, b) ∷ after) s ≡ extended l b (extended_all (before ++ after) s)
taken l b [] after s h = refl
taken l b (f ∷ before) after s h =
    ap (extended f.0 f.1) (taken l b before after s h.1) ∙ sym (extended-extended l f.0 b f.1 (extended_all (before ++ after) s) h.0)

-- a field that both have: its types are equal, and so is what is left
pub both_have : (l : List ℕ) (a b : Ground) (acc before after : List (List ℕ × Ground)) (r s : Row) → Lacks l acc → Lacks l before →
    (extended_all acc (extended l a r) ≡ extended_all (before ++ (l, b) ∷ after) s) ↔ ((a ≡ b) × (extended_all acc r ≡ extended_all (before ++ after) s))
both_have l a b acc before after r s ha hb = (
  (λ e. extended-injective l a b (extended_all acc r) (extended_all (before ++ after) s) (sym (extended_all-extended l a acc r ha) ∙ e ∙ taken l b before after s hb)),
  λ p. extended_all-extended l a acc r ha ∙ (let x = p.0 in let y = p.1 in ap (λ t. extended l t (extended_all acc r)) x ∙ ap (extended l b) y) ∙ sym (taken l b before after s hb),
)
