-- What is said of each number of a list.
use Rattle.std.proofs.Common.{◌≡◌, ℕ, ◌+◌, ◌≤◌, List, [], ◌∷◌, refl, sym, ap, subst, arith, inl, inr}
use Rattle.type_terms.specs.Terms.{Each, Among}
use Rattle.type_terms.specs.Depth.{sum_of}

pub Each-map : (P Q : ℕ → Type 0) → ((k : ℕ) → P k → Q k) → (ks : List ℕ) → Each P ks → Each Q ks
Each-map P Q f [] h = tt
Each-map P Q f (k ∷ ks) h = (f k h.0, Each-map P Q f ks h.1)

-- the same, where only the members are asked
pub Each-map_among : (P Q : ℕ → Type 0) (ks : List ℕ) → ((k : ℕ) → Among k ks → P k → Q k) → Each P ks → Each Q ks
Each-map_among P Q [] f h = tt
Each-map_among P Q (k ∷ ks) f h = (f k (inl refl) h.0, Each-map_among P Q ks (λ j m. f j (inr m)) h.1)

pub Each-at : (P : ℕ → Type 0) (ks : List ℕ) (k : ℕ) → Each P ks → Among k ks → P k
Each-at P [] k h m = elim m [ ]
Each-at P (x ∷ ks) k h m = elim m as (λ _. P k) [ inl e ↦ subst P (sym e) h.0 | inr n ↦ Each-at P ks k h.1 n ]

pub Each-from : (P : ℕ → Type 0) (ks : List ℕ) → ((k : ℕ) → Among k ks → P k) → Each P ks
Each-from P [] f = tt
Each-from P (k ∷ ks) f = (f k (inl refl), Each-from P ks (λ j m. f j (inr m)))

pub sum_of-same : (v w : ℕ → ℕ) (P : ℕ → Type 0) → ((k : ℕ) → P k → v k ≡ w k) → (ks : List ℕ) → Each P ks → sum_of v ks ≡ sum_of w ks
sum_of-same v w P f [] h = refl
sum_of-same v w P f (k ∷ ks) h = let a = f k h.0 in let b = sum_of-same v w P f ks h.1 in omega (arith, a, b)

pub among-sum_of : (w : ℕ → ℕ) (k : ℕ) (ks : List ℕ) → Among k ks → w k ≤ sum_of w ks
among-sum_of w k [] m = elim m [ ]
among-sum_of w k (x ∷ ks) m =
    elim m as (λ _. w k ≤ w x + sum_of w ks) [ inl e ↦ omega (arith, ap w e) | inr n ↦ omega (arith, among-sum_of w k ks n) ]
