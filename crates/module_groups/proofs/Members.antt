-- Lists by what they contain: what is kept of a range, lists that ascend, and counts.
use Rattle.std.proofs.Common.{◌≡◌, ℕ, zero, suc, ◌+◌, ◌<◌, ◌≤◌, Bool, true, false, IsTrue, ◌↔◌, List, [], ◌∷◌, ◌++◌, length, refl, sym, ◌∙◌, ap, subst, arith, ◌⊎◌, inl, inr, ⊎_elim}
use Rattle.std.specs.List.{Contains, filter, range_with_len}
use Rattle.std.proofs.lemmas.Bool.{cases_Bool, cond-true, cond-false, cases_eq, false≢true}
use Rattle.std.proofs.lemmas.List.{map-id}
use Rattle.std.proofs.lemmas.List.Elements.{filter-append}
use Rattle.std.proofs.lemmas.List.FromFn.{map-range_with_len_more}
use Rattle.module_groups.specs.Groups.{Ascends}

pub contains_here : {X : Type 0} (x : X) (xs : List X) → Contains (x ∷ xs) x
contains_here x xs = (0, omega arith, refl)

pub contains_more : {X : Type 0} (x y : X) (xs : List X) → Contains xs y → Contains (x ∷ xs) y
contains_more x y xs (k, h, e) = (suc k, omega (arith, h), e)

pub contains_cases : {X : Type 0} (x y : X) (xs : List X) → Contains (x ∷ xs) y → (x ≡ y) ⊎ Contains xs y
contains_cases x y xs (zero, h, e) = inl e
contains_cases x y xs (suc k, h, e) = inr (k, omega (arith, h), e)

pub contains_none : {X : Type 0} (y : X) → Contains [] y → ⊥
contains_none y (k, h, e) = absurd (omega (arith, h))

-- what is in a range
pub range_has : (from len b : ℕ) → from ≤ b → b < from + len → Contains (range_with_len from len) b
range_has from zero b low high = absurd (omega (arith, low, high))
range_has from (suc len) b low high =
    ⊎_elim (λ (e : from ≡ b). subst (λ (x : ℕ). Contains (from ∷ range_with_len (from + 1) len) x) e (contains_here from (range_with_len (from + 1) len)))
    (λ (ne : from ≡ b → ⊥). contains_more from b (range_with_len (from + 1) len)
    (range_has (from + 1) len b (omega (arith, low, ne)) (omega (arith, high)))) (cases_eq from b)

pub range_within : (from len b : ℕ) → Contains (range_with_len from len) b → (from ≤ b) × (b < from + len)
range_within from zero b h = absurd (contains_none b h)
range_within from (suc len) b h =
    ⊎_elim (λ (e : from ≡ b). (omega (arith, e), omega (arith, e)))
    (λ (more : Contains (range_with_len (from + 1) len) b).
    let so = range_within (from + 1) len b more in (omega (arith, so.0), omega (arith, so.1)))
    (contains_cases from b (range_with_len (from + 1) len) h)

-- what a filter keeps
module _ (p : ℕ → Bool) where
  pub kept : (xs : List ℕ) (b : ℕ) → Contains xs b → IsTrue (p b) → Contains (filter p xs) b
  kept [] b h passes = absurd (contains_none b h)
  kept (x ∷ xs) b h passes =
      ⊎_elim (λ (on : p x ≡ true).
      rw (cond-true (p x) (x ∷ filter p xs) (filter p xs) on)
      (⊎_elim (λ (e : x ≡ b). subst (λ (y : ℕ). Contains (x ∷ filter p xs) y) e (contains_here x (filter p xs)))
      (λ (more : Contains xs b). contains_more x b (filter p xs) (kept xs b more passes)) (contains_cases x b xs h)))
      (λ (off : p x ≡ false).
      rw (cond-false (p x) (x ∷ filter p xs) (filter p xs) off)
      (⊎_elim (λ (e : x ≡ b). absurd (false≢true (sym off ∙ ap p e ∙ passes)))
      (λ (more : Contains xs b). kept xs b more passes) (contains_cases x b xs h)))
      (cases_Bool (p x))

  pub was_kept : (xs : List ℕ) (b : ℕ) → Contains (filter p xs) b → Contains xs b × IsTrue (p b)
  was_kept [] b h = absurd (contains_none b h)
  was_kept (x ∷ xs) b h =
      ⊎_elim (λ (on : p x ≡ true).
      let in' = rw (cond-true (p x) (x ∷ filter p xs) (filter p xs) on) at h in
      let both : Contains (x ∷ xs) b × IsTrue (p b) =
      ⊎_elim (λ (e : x ≡ b). (subst (λ (y : ℕ). Contains (x ∷ xs) y) e (contains_here x xs), sym (ap p e) ∙ on))
      (λ (more : Contains (filter p xs) b). let so = was_kept xs b more in (contains_more x b xs so.0, so.1)) (contains_cases x b (filter p xs) in') in both)
      (λ (off : p x ≡ false).
      let in' = rw (cond-false (p x) (x ∷ filter p xs) (filter p xs) off) at h in
      let so = was_kept xs b in' in
      let both : Contains (x ∷ xs) b × IsTrue (p b) = (contains_more x b xs so.0, so.1) in both)
      (cases_Bool (p x))

  -- what a filter keeps of a range ascends
  pub kept_ascends : (from len : ℕ) → Ascends (filter p (range_with_len from len))
  kept_ascends from zero = tt
  kept_ascends from (suc len) =
      ⊎_elim (λ (on : p from ≡ true).
      rw (cond-true (p from) (from ∷ filter p (range_with_len (from + 1) len)) (filter p (range_with_len (from + 1) len)) on)
      (λ b h. let so = range_within (from + 1) len b (was_kept (range_with_len (from + 1) len) b h).0 in omega (arith, so.0), kept_ascends (from + 1) len))
      (λ (off : p from ≡ false).
      rw (cond-false (p from) (from ∷ filter p (range_with_len (from + 1) len)) (filter p (range_with_len (from + 1) len)) off) (kept_ascends (from + 1) len))
      (cases_Bool (p from))

  -- a range that is one longer
  pub kept_longer : (b : ℕ) → filter p (range_with_len 0 (b + 1)) ≡ filter p (range_with_len 0 b) ++ filter p (b ∷ [])
  kept_longer b =
      let longer : range_with_len 0 (b + 1) ≡ range_with_len 0 b ++ b ∷ [] =
      sym (map-id (range_with_len 0 (b + 1))) ∙ map-range_with_len_more (λ (x : ℕ). x) 0 b b (omega arith)
      ∙ ap (λ (xs : List ℕ). xs ++ b ∷ []) (map-id (range_with_len 0 b)) in
      ap (filter p) longer ∙ filter-append p (range_with_len 0 b) (b ∷ [])

-- two lists that ascend and contain the same are the same
pub same_ascending : (xs ys : List ℕ) → Ascends xs → Ascends ys → ((b : ℕ) → Contains xs b ↔ Contains ys b) → xs ≡ ys
same_ascending [] [] up also same = refl
same_ascending [] (y ∷ ys) up also same = absurd (contains_none y ((same y).1 (contains_here y ys)))
same_ascending (x ∷ xs) [] up also same = absurd (contains_none x ((same x).0 (contains_here x xs)))
same_ascending (x ∷ xs) (y ∷ ys) up also same =
    let there : (y ≡ x) ⊎ Contains ys x = contains_cases y x ys ((same x).0 (contains_here x xs)) in
    let here : (x ≡ y) ⊎ Contains xs y = contains_cases x y xs ((same y).1 (contains_here y ys)) in
    let heads : x ≡ y =
    ⊎_elim (λ (e : y ≡ x). sym e)
    (λ (in' : Contains ys x). ⊎_elim (λ (e : x ≡ y). e) (λ (out : Contains xs y). absurd (omega (arith, also.0 x in', up.0 y out))) here) there in
    let tails : (b : ℕ) → Contains xs b ↔ Contains ys b = λ b. (
      λ h. ⊎_elim (λ (e : y ≡ b). absurd (omega (arith, up.0 b h, e, heads))) (λ (in' : Contains ys b). in')
          (contains_cases y b ys ((same b).0 (contains_more x b xs h))),
      λ h. ⊎_elim (λ (e : x ≡ b). absurd (omega (arith, also.0 b h, e, heads))) (λ (in' : Contains xs b). in')
          (contains_cases x b xs ((same b).1 (contains_more y b ys h))),
    ) in
    let rest : xs ≡ ys = same_ascending xs ys up.1 also.1 tails in
    ap (λ (z : ℕ). z ∷ xs) heads ∙ ap (λ (zs : List ℕ). y ∷ zs) rest

-- the first of a list that ascends is at most each of its numbers
pub first_least : (x : ℕ) (xs : List ℕ) (b : ℕ) → Ascends (x ∷ xs) → Contains (x ∷ xs) b → x ≤ b
first_least x xs b up h = ⊎_elim (λ (e : x ≡ b). omega (arith, e)) (λ (more : Contains xs b). omega (arith, up.0 b more)) (contains_cases x b xs h)

-- a test that lets fewer pass counts no more, and less where something in the list passes the other alone
module _ (p q : ℕ → Bool) (fewer : (x : ℕ) → p x ≡ true → q x ≡ true) where
  pub counts_no_more : (xs : List ℕ) → length (filter p xs) ≤ length (filter q xs)
  counts_no_more [] = omega arith
  counts_no_more (x ∷ xs) =
      let rest : length (filter p xs) ≤ length (filter q xs) = counts_no_more xs in
      ⊎_elim (λ (on : p x ≡ true). rw (cond-true (p x) (x ∷ filter p xs) (filter p xs) on, cond-true (q x) (x ∷ filter q xs) (filter q xs) (fewer x on)) (omega (arith, rest)))
      (λ (off : p x ≡ false). rw (cond-false (p x) (x ∷ filter p xs) (filter p xs) off)
      (⊎_elim (λ (yes : q x ≡ true). rw (cond-true (q x) (x ∷ filter q xs) (filter q xs) yes) (omega (arith, rest)))
      (λ (not' : q x ≡ false). rw (cond-false (q x) (x ∷ filter q xs) (filter q xs) not') (omega (arith, rest))) (cases_Bool (q x)))) (cases_Bool (p x))

  pub counts_less : (xs : List ℕ) (c : ℕ) → Contains xs c → p c ≡ false → q c ≡ true → length (filter p xs) < length (filter q xs)
  counts_less [] c h off on = absurd (contains_none c h)
  counts_less (x ∷ xs) c h off on =
      ⊎_elim (λ (e : x ≡ c).
      rw (cond-false (p x) (x ∷ filter p xs) (filter p xs) (ap p e ∙ off), cond-true (q x) (x ∷ filter q xs) (filter q xs) (ap q e ∙ on)) (omega (arith, counts_no_more xs)))
      (λ (more : Contains xs c).
      let rest : length (filter p xs) < length (filter q xs) = counts_less xs c more off on in
      ⊎_elim (λ (yes : p x ≡ true). rw (cond-true (p x) (x ∷ filter p xs) (filter p xs) yes, cond-true (q x) (x ∷ filter q xs) (filter q xs) (fewer x yes)) (omega (arith, rest)))
      (λ (not' : p x ≡ false). rw (cond-false (p x) (x ∷ filter p xs) (filter p xs) not')
      (⊎_elim (λ (yes : q x ≡ true). rw (cond-true (q x) (x ∷ filter q xs) (filter q xs) yes) (omega (arith, rest)))
      (λ (never : q x ≡ false). rw (cond-false (q x) (x ∷ filter q xs) (filter q xs) never) (omega (arith, rest))) (cases_Bool (q x)))) (cases_Bool (p x)))
      (contains_cases x c xs h)
