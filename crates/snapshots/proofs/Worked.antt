-- The definitions at work, on both sides of each.
use Rattle.std.proofs.Common.{◌≡◌, ℕ, ◌-◌, ◌^◌, ◌*◌, ◌<◌, List, [], ◌∷◌, length, take, refl, zero, suc, arith, slice_get, Some, None}
use Rattle.snapshots.specs.Past.{one_more}
use Rattle.snapshots.specs.Prefixes.{IsPrefix}
use Rattle.snapshots.specs.Kept.{AreKept, IsEnd}

-- 1, 2, 3 begins with 1, 2 and with nothing, not with 1, 3, and 1 doesn't begin with 1, 2
begins : IsPrefix {A = ℕ} (1 ∷ 2 ∷ []) (1 ∷ 2 ∷ 3 ∷ [])
begins = refl

begins_with_nothing : IsPrefix {A = ℕ} [] (1 ∷ 2 ∷ 3 ∷ [])
begins_with_nothing = refl

differs : IsPrefix {A = ℕ} (1 ∷ 3 ∷ []) (1 ∷ 2 ∷ 3 ∷ []) → ⊥
differs here = cc

ends_before : IsPrefix {A = ℕ} (1 ∷ 2 ∷ []) (1 ∷ []) → ⊥
ends_before here = cc

-- one step more, and none at the last number of 64 bits
three_after_two : one_more 2 ≡ 3
three_after_two = refl

none_after_the_last : one_more (2 ^ 64 - 1) ≡ 2 ^ 64 - 1
none_after_the_last = refl

-- Here a mark is the number of its events, and stands for every list of that length.
abbrev Counts : ℕ → List ℕ → Type 0
Counts mark events = length events ≡ mark

-- of three events, 2 apart, the marks of 0 and of 2 are kept, and not that of 0 alone, nor one of 4
two_marks : AreKept Counts (λ a b. a < b) (7 ∷ 8 ∷ 9 ∷ []) 2 (0 ∷ 2 ∷ [])
two_marks = record {
  enough = omega arith;
  within = λ k less. omega arith;
  own = own;
  ordered = ordered;
}
  where
    own : (k m : ℕ) → slice_get (0 ∷ 2 ∷ []) k ≡ Some m → Counts m (take (k * 2) (7 ∷ 8 ∷ 9 ∷ []))
    own zero m here = cc
    own (suc zero) m here = cc
    own (suc (suc k)) m here = cc

    ordered : (j k a b : ℕ) → j < k → slice_get (0 ∷ 2 ∷ []) j ≡ Some a → slice_get (0 ∷ 2 ∷ []) k ≡ Some b → a < b
    ordered zero zero a b less first second = absurd (omega arith)
    ordered zero (suc zero) a b less first second = let e : 0 ≡ a = cc in let f : 2 ≡ b = cc in omega (arith, e, f)
    ordered zero (suc (suc k)) a b less first second = cc
    ordered (suc zero) zero a b less first second = absurd (omega arith)
    ordered (suc zero) (suc zero) a b less first second = absurd (omega arith)
    ordered (suc zero) (suc (suc k)) a b less first second = cc
    ordered (suc (suc j)) k a b less first second = cc

one_mark : AreKept Counts (λ a b. a < b) (7 ∷ 8 ∷ 9 ∷ []) 2 (0 ∷ []) → ⊥
one_mark are = omega (arith, are.enough)

mark_behind_the_end : AreKept Counts (λ a b. a < b) (7 ∷ 8 ∷ 9 ∷ []) 2 (0 ∷ 2 ∷ 4 ∷ []) → ⊥
mark_behind_the_end are = let above = are.within 2 (omega arith) in omega (arith, above)

-- without a mark of the end the cursor stands there, and with one it doesn't
at_the_end : IsEnd Counts (λ a b. a < b) (7 ∷ 8 ∷ []) 2 [] None
at_the_end = refl

before_the_end : IsEnd Counts (λ a b. a < b) (7 ∷ 8 ∷ []) 1 [] None → ⊥
before_the_end here = cc

marked_at_the_end : IsEnd Counts (λ a b. a < b) (7 ∷ 8 ∷ []) 2 [] (Some 2) → ⊥
marked_at_the_end here = let less : 2 < 2 = here.0 in omega (arith, less)
