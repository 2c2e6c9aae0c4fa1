-- Different binders have different numbers.
use Rattle.std.proofs.Common.{◌≡◌, ℕ, zero, suc, ◌+◌, ◌<◌, ◌≤◌, Bool, true, false, ◌&&◌, ◌||◌, ◌==◌, if◌then◌else◌, List, [], ◌∷◌, length, refl, sym, ap, ap₂, ◌∙◌, subst, arith, ◌⊎◌, inl, inr, ⊎_elim}
use Rattle.std.specs.Prelude.{nat_lt}
use Rattle.std.specs.List.{Contains}
use Rattle.std.proofs.lemmas.Bool.{cases_lt, eqb-true, eq-eqb, lt-ltb, ltb-true}
use Rattle.elm_base.specs.declared.token.At.{At}
use Rattle.plain_form.specs.Numbering.{comes_before, number_before, own_before}

-- ---- places in order

abbrev Before : At → At → Type 0
Before a b = (a.line < b.line) ⊎ ((a.line ≡ b.line) × (a.column < b.column))

split : (p q r : Bool) → (p || (q && r)) ≡ true → (p ≡ true) ⊎ ((q ≡ true) × (r ≡ true))
split true q r h = inl refl
split false true r h = inr (refl, h)
split false false r h = absurd (cc)

joined : (p q r : Bool) → q ≡ true → r ≡ true → (p || (q && r)) ≡ true
joined true q r h k = refl
joined false q r h k = ap (λ z. z && r) h ∙ k

first : (p q : Bool) → p ≡ true → (p || q) ≡ true
first p q h = ap (λ z. z || q) h

before : (a b : At) → comes_before a b ≡ true → Before a b
before a b h =
    ⊎_elim (λ l. inl (ltb-true a.line b.line l)) (λ c. inr (eqb-true a.line b.line c.0, ltb-true a.column b.column c.1))
    (split (nat_lt a.line b.line) (a.line == b.line) (nat_lt a.column b.column) h)

in_order : (a b : At) → Before a b → comes_before a b ≡ true
in_order a b (inl l) = first (nat_lt a.line b.line) _ (lt-ltb a.line b.line l)
in_order a b (inr c) = joined (nat_lt a.line b.line) _ _ (eq-eqb a.line b.line c.0) (lt-ltb a.column b.column c.1)

then_before : (a b c : At) → Before a b → Before b c → Before a c
then_before a b c (inl l) (inl m) = inl (omega (arith, l, m))
then_before a b c (inl l) (inr m) = inl (omega (arith, l, m.0))
then_before a b c (inr l) (inl m) = inl (omega (arith, l.0, m))
then_before a b c (inr l) (inr m) = inr (l.0 ∙ m.0, omega (arith, l.1, m.1))

transitive : (a b c : At) → comes_before a b ≡ true → comes_before b c ≡ true → comes_before a c ≡ true
transitive a b c h k = in_order a c (then_before a b c (before a b h) (before b c k))

not_itself : (a : At) → Before a a → ⊥
not_itself a (inl l) = omega (arith, l)
not_itself a (inr c) = omega (arith, c.1)

itself : (t : Bool) (a : At) → comes_before a a ≡ t → t ≡ false
itself true a h = absurd (not_itself a (before a a h))
itself false a h = refl

abbrev at_of : ℕ → ℕ → At
at_of line column = record { line = line; column = column }

same_at : (a b : At) → a.line ≡ b.line → a.column ≡ b.column → a ≡ b
same_at a b h k = ap₂ at_of h k

by_column : (a b : At) → a.line ≡ b.line → (a ≡ b) ⊎ (Before a b ⊎ Before b a)
by_column a b h =
    ⊎_elim (λ (l : a.column < b.column). inr (inl (inr (h, l))))
    (λ (m : b.column ≤ a.column). ⊎_elim (λ (l : b.column < a.column). inr (inr (inr (sym h, l))))
    (λ (n : a.column ≤ b.column). inl (same_at a b h (omega (arith, m, n)))) (cases_lt b.column a.column))
    (cases_lt a.column b.column)

one_or_other : (a b : At) → (a ≡ b) ⊎ (Before a b ⊎ Before b a)
one_or_other a b =
    ⊎_elim (λ (l : a.line < b.line). inr (inl (inl l)))
    (λ (m : b.line ≤ a.line). ⊎_elim (λ (l : b.line < a.line). inr (inr (inl l)))
    (λ (n : a.line ≤ b.line). by_column a b (omega (arith, m, n))) (cases_lt b.line a.line))
    (cases_lt a.line b.line)

-- ---- how many stand before

abbrev one_if : Bool → ℕ → ℕ → ℕ
one_if s k n = if s then k + n else n

no_fewer_if : (s t : Bool) (k m n : ℕ) → (s ≡ true → t ≡ true) → m ≤ n → one_if s k m ≤ one_if t k n
no_fewer_if true true k m n f g = omega (arith, g)
no_fewer_if true false k m n f g = absurd (let e = f refl in cc)
no_fewer_if false true k m n f g = omega (arith, g)
no_fewer_if false false k m n f g = g

fewer_here : (s t : Bool) (k m n : ℕ) → s ≡ false → t ≡ true → m ≤ n → one_if s k m + k ≤ one_if t k n
fewer_here true t k m n e f g = absurd (cc)
fewer_here false true k m n e f g = omega (arith, g)
fewer_here false false k m n e f g = absurd (cc)

fewer_later : (s t : Bool) (j k m n : ℕ) → (s ≡ true → t ≡ true) → m + k ≤ n → one_if s j m + k ≤ one_if t j n
fewer_later true true j k m n f g = omega (arith, g)
fewer_later true false j k m n f g = absurd (let e = f refl in cc)
fewer_later false true j k m n f g = omega (arith, g)
fewer_later false false j k m n f g = g

own_no_fewer : (x y : At) → comes_before x y ≡ true → (os : List (At × ℕ)) → own_before x os ≤ own_before y os
own_no_fewer x y h [] = omega arith
own_no_fewer x y h (o ∷ os) =
    no_fewer_if (comes_before o.0 x) (comes_before o.0 y) o.1 _ _ (λ e. transitive o.0 x y e h) (own_no_fewer x y h os)

own_fewer : (x y : At) (k : ℕ) → comes_before x y ≡ true → (os : List (At × ℕ)) → Contains os (x, k) → own_before x os + k ≤ own_before y os
own_fewer x y k h [] c = absurd (omega (arith, c.1))
own_fewer x y k h (o ∷ os) (zero, l, e) =
    let s : comes_before o.0 x ≡ false = subst (λ (z : At × ℕ). comes_before z.0 x ≡ false) (sym e) (itself (comes_before x x) x refl) in
    let t : comes_before o.0 y ≡ true = subst (λ (z : At × ℕ). comes_before z.0 y ≡ true) (sym e) h in
    subst (λ (z : ℕ). own_before x (o ∷ os) + z ≤ own_before y (o ∷ os)) (ap (λ (z : At × ℕ). z.1) e)
    (fewer_here (comes_before o.0 x) (comes_before o.0 y) o.1 _ _ s t (own_no_fewer x y h os))
own_fewer x y k h (o ∷ os) (suc i, l, e) =
    fewer_later (comes_before o.0 x) (comes_before o.0 y) o.1 k _ _ (λ f. transitive o.0 x y f h) (own_fewer x y k h os (i, omega (arith, l), e))

-- each binder counts for one
abbrev as_own : List At → List (At × ℕ)
as_own [] = []
as_own (p ∷ ps) = (p, 1) ∷ as_own ps

counts_one : (x : At) (ps : List At) → number_before x ps ≡ own_before x (as_own ps)
counts_one x [] = refl
counts_one x (p ∷ ps) = one_more (comes_before p x) (counts_one x ps)
  where
    one_more : (s : Bool) → number_before x ps ≡ own_before x (as_own ps) → (if s then suc (number_before x ps) else number_before x ps) ≡ one_if s 1 (own_before x (as_own ps))
    one_more true h = omega (arith, h)
    one_more false h = h

stands_as_own : (x : At) (ps : List At) → Contains ps x → Contains (as_own ps) (x, 1)
stands_as_own x [] c = absurd (omega (arith, c.1))
stands_as_own x (p ∷ ps) (zero, l, e) = (0, omega arith, ap (λ (z : At). (z, 1)) e)
stands_as_own x (p ∷ ps) (suc i, l, e) =
    let c = stands_as_own x ps (i, omega (arith, l), e) in (suc c.0, omega (arith, c.1), c.2)

fewer : (x y : At) (ps : List At) → comes_before x y ≡ true → Contains ps x → number_before x ps < number_before y ps
fewer x y ps h c =
    let l = own_fewer x y 1 h (as_own ps) (stands_as_own x ps c) in omega (arith, l, counts_one x ps, counts_one y ps)

at_most : (x : At) (ps : List At) → number_before x ps ≤ length ps
at_most x [] = omega arith
at_most x (p ∷ ps) = or_one (comes_before p x) (at_most x ps)
  where
    or_one : (s : Bool) → number_before x ps ≤ length ps → (if s then suc (number_before x ps) else number_before x ps) ≤ suc (length ps)
    or_one true h = omega (arith, h)
    or_one false h = omega (arith, h)

below : (x : At) (ps : List At) → Contains ps x → number_before x ps < length ps
below x [] c = absurd (omega (arith, c.1))
below x (p ∷ ps) (zero, l, e) =
    not_here (comes_before p x) (subst (λ (z : At). comes_before z x ≡ false) (sym e) (itself (comes_before x x) x refl))
  where
    not_here : (s : Bool) → s ≡ false → (if s then suc (number_before x ps) else number_before x ps) < suc (length ps)
    not_here true f = absurd (cc)
    not_here false f = omega (arith, at_most x ps)
below x (p ∷ ps) (suc i, l, e) = or_one (comes_before p x) (below x ps (i, omega (arith, l), e))
  where
    or_one : (s : Bool) → number_before x ps < length ps → (if s then suc (number_before x ps) else number_before x ps) < suc (length ps)
    or_one true h = omega (arith, h)
    or_one false h = omega (arith, h)

-- ---- the laws

pub binders_differ : (ps : List At) (x y : At) → Contains ps x → Contains ps y → number_before x ps ≡ number_before y ps → x ≡ y
binders_differ ps x y c d e = by_order (one_or_other x y)
  where
    by_order : (x ≡ y) ⊎ (Before x y ⊎ Before y x) → x ≡ y
    by_order (inl same) = same
    by_order (inr (inl l)) = absurd (omega (arith, e, fewer x y ps (in_order x y l) c))
    by_order (inr (inr l)) = absurd (omega (arith, e, fewer y x ps (in_order y x l) d))

pub further_differ : (from : ℕ) (os : List (At × ℕ)) (x y : At) (i j k m : ℕ) → Contains os (x, k) → Contains os (y, m) → i < k → j < m
    → from + own_before x os + i ≡ from + own_before y os + j → (x ≡ y) × (i ≡ j)
further_differ from os x y i j k m c d p q e = by_order (one_or_other x y)
  where
    by_order : (x ≡ y) ⊎ (Before x y ⊎ Before y x) → (x ≡ y) × (i ≡ j)
    by_order (inl same) = (same, omega (arith, e, ap (λ (z : At). own_before z os) same))
    by_order (inr (inl l)) = absurd (omega (arith, e, p, own_fewer x y k (in_order x y l) os c))
    by_order (inr (inr l)) = absurd (omega (arith, e, q, own_fewer y x m (in_order y x l) os d))

pub binders_come_first : (ps : List At) (os : List (At × ℕ)) (x y : At) (i : ℕ) → Contains ps x → number_before x ps < length ps + own_before y os + i
binders_come_first ps os x y i c = omega (arith, below x ps c)
