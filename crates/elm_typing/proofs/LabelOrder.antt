-- The order of labels is total.
use Rattle.std.proofs.Common.{◌≡◌, ◌≢◌, ℕ, Bool, true, false, List, refl, sym, ◌∙◌, ap, ◌⊎◌, inl, inr}
use Rattle.std.specs.Cmp.Lexicographic.{slice_cmp}
use Rattle.std.specs.declared.cmp.Ordering.{Ordering}
use Rattle.std.specs.declared.cmp.Ordering.TheVariants.{Less, Equal, Greater}
use Rattle.std.specs.Ordering.{nat_cmp, is_gt, is_eq, ordering_reverse}
use Rattle.std.specs.Str.{bytes_eq}
use Rattle.std.proofs.lemmas.Cmp.{nat_list_cmp_total, upto, tied_itself}
use Rattle.std.proofs.lemmas.Map.Lookups.{exact_bytes}
use Rattle.std.proofs.lemmas.Map.Text.{is_eq-slice_cmp}
use Rattle.elm_typing.specs.Labels.{is_after}

pub decided : (b : Bool) → (b ≡ true) ⊎ (b ≡ false)
decided true = inl refl
decided false = inr refl

pub after_itself : (l : List ℕ) → is_after l l ≡ false
after_itself l = ap is_gt (tied_itself nat_list_cmp_total l)

-- where one label comes after another, the other doesn't come after it
pub after_asymmetric : (l m : List ℕ) → is_after m l ≡ true → is_after l m ≡ false
after_asymmetric l m h = ap is_gt (nat_list_cmp_total.antisymm l m) ∙ turned (slice_cmp nat_cmp m l) h
  where
    turned : (o : Ordering) → is_gt o ≡ true → is_gt (ordering_reverse o) ≡ false
    turned Less e = cc e
    turned Equal e = cc e
    turned Greater e = refl

pub after_neither : (l m : List ℕ) → is_after l m ≡ false → is_after m l ≡ false → l ≡ m
after_neither l m h k =
    exact_bytes l m (equal (slice_cmp nat_cmp l m) (slice_cmp nat_cmp m l) (nat_list_cmp_total.antisymm l m) h k)
  where
    equal : (o p : Ordering) → o ≡ ordering_reverse p → is_gt o ≡ false → is_gt p ≡ false → o ≡ Equal
    equal o Less e h k = let f = sym h ∙ ap is_gt e in cc f
    equal o Equal e h k = e
    equal o Greater e h k = cc k

pub at_most_trans : (k l m : List ℕ) → is_after k l ≡ false → is_after l m ≡ false → is_after k m ≡ false
at_most_trans = upto nat_list_cmp_total

clash : {A : Type 0} (b : Bool) → b ≡ true → b ≡ false → A
clash b h k = let f : true ≡ false = sym h ∙ k in cc f

-- k before l, and l at most m
pub before_at_most : (k l m : List ℕ) → is_after l k ≡ true → is_after l m ≡ false → is_after m k ≡ true
before_at_most k l m h i =
    elim (decided (is_after m k)) as (λ _. is_after m k ≡ true) [
      | inl t ↦ t
      | inr f ↦ clash (is_after l k) h (at_most_trans l m k i f)
    ]

-- k at most l, and l before m
pub at_most_before : (k l m : List ℕ) → is_after k l ≡ false → is_after m l ≡ true → is_after m k ≡ true
at_most_before k l m h i =
    elim (decided (is_after m k)) as (λ _. is_after m k ≡ true) [
      | inl t ↦ t
      | inr f ↦ clash (is_after m l) i (at_most_trans m k l f h)
    ]

pub before_trans : (k l m : List ℕ) → is_after l k ≡ true → is_after m l ≡ true → is_after m k ≡ true
before_trans k l m h i = at_most_before k l m (after_asymmetric k l h) i

pub before_differs : (l m : List ℕ) → is_after m l ≡ true → l ≢ m
before_differs l m h e = clash (is_after m l) h (ap (λ k. is_after m k) e ∙ after_itself m)

pub either_before : (l m : List ℕ) → l ≢ m → (is_after m l ≡ true) ⊎ (is_after l m ≡ true)
either_before l m ne =
    elim (decided (is_after m l)) as (λ _. (is_after m l ≡ true) ⊎ (is_after l m ≡ true)) [
      | inl t ↦ inl t
      | inr f ↦ elim (decided (is_after l m)) as (λ _. (is_after m l ≡ true) ⊎ (is_after l m ≡ true)) [
        | inl t ↦ inr t
        | inr g ↦ absurd (ne (after_neither l m g f))
      ]
    ]

-- labels are equal where their bytes are
pub bytes_eq_itself : (l : List ℕ) → bytes_eq l l ≡ true
bytes_eq_itself l = sym (is_eq-slice_cmp l l) ∙ ap is_eq (tied_itself nat_list_cmp_total l)

pub bytes_eq_same : (l m : List ℕ) → bytes_eq l m ≡ true → l ≡ m
bytes_eq_same l m h = exact_bytes l m (equal (slice_cmp nat_cmp l m) (is_eq-slice_cmp l m ∙ h))
  where
    equal : (o : Ordering) → is_eq o ≡ true → o ≡ Equal
    equal Less e = cc e
    equal Equal e = refl
    equal Greater e = cc e

pub bytes_eq_differs : (l m : List ℕ) → l ≢ m → bytes_eq l m ≡ false
bytes_eq_differs l m ne =
    elim (decided (bytes_eq l m)) as (λ _. bytes_eq l m ≡ false)
    [ inl t ↦ absurd (ne (bytes_eq_same l m t)) | inr f ↦ f ]
