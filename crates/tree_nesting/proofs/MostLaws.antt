-- The most of the nestings of parts, looked at in turn.
use Rattle.std.proofs.Common.{take_all, refl, ◌≡◌, ℕ, ◌+◌, ◌<◌, ◌≤◌, Bool, true, false, IsTrue, List, [], ◌∷◌, length, get_or, map, take, add-one, sym, subst, arith}
use Rattle.std.proofs.Math.Seq.{take-suc}
use Rattle.std.proofs.lemmas.List.{map-append}
use Rattle.tree_nesting.specs.Nesting.{most, around}
use Rattle.tree_nesting.proofs.NestingLaws.{most_at, most_last}

-- one part beside others
pub around_cons : (n : ℕ) (ns : List ℕ) (limit : ℕ) → ((n < limit) × (around ns ≤ limit) → around (n ∷ ns) ≤ limit) × (around (n ∷ ns) ≤ limit → (n < limit) × (around ns ≤ limit))
around_cons n [] limit = (λ h. omega arith, λ h. (omega arith, omega arith))
around_cons n (m ∷ ns) limit = (λ h. omega arith, λ h. (omega arith, omega arith))

-- the turn of a loop over parts, by what was said of the part at hand
module _ {A : Type 0} (f : A → ℕ) (xs : List A) (i limit : ℕ) (item : A) (b : Bool) (here : i < length xs) (is : item ≡ get_or xs i item)
    (within : IsTrue b → f item ≤ limit) (so : f item ≤ limit → IsTrue b) where
  pub more_within : b ≡ true → most (map f (take i xs)) ≤ limit → most (map f (take (i + 1) xs)) ≤ limit
  more_within e h =
      let one : f (get_or xs i item) ≤ limit = subst (λ z. f z ≤ limit) is (within e) in
      rw (add-one, take-suc xs i item here, map-append) (most_last (map f (take i xs)) (f (get_or xs i item)) limit h one)

  -- one part is too deep
  pub deeper_within : b ≡ false → most (map f xs) ≤ limit → ⊥
  deeper_within e h =
      let one : f (get_or xs i item) ≤ limit = omega (arith, most_at f xs i item here) in
      let passes : b ≡ true = so (subst (λ z. f z ≤ limit) (sym is) one) in cc

  pub none_within : b ≡ false → (IsTrue false → most (map f xs) ≤ limit) × (most (map f xs) ≤ limit → IsTrue false)
  none_within e = (λ h. cc, λ h. absurd (deeper_within e h))

-- where all parts have been looked at
pub all_within : {A : Type 0} (f : A → ℕ) (xs : List A) (i limit : ℕ) → length xs ≤ i → around (map f (take i xs)) ≤ limit
    → (IsTrue true → around (map f xs) ≤ limit) × (around (map f xs) ≤ limit → IsTrue true)
all_within f xs i limit past h = (λ _. subst (λ (ys : List _). around (map f ys) ≤ limit) (take_all i xs past) h, λ _. refl)
