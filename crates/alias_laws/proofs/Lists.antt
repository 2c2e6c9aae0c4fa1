-- What lists contain that are put together from others.
use Rattle.std.proofs.Common.{◌≡◌, ℕ, zero, suc, ◌<◌, Bool, true, false, List, [], ◌∷◌, ◌++◌, Some, length, refl, sym, ◌∙◌, ap, subst, arith, ⊎_elim}
use Rattle.std.specs.Prelude.{slice_get}
use Rattle.std.specs.List.{Contains, filter, flat_map, list_any}
use Rattle.std.proofs.lemmas.Bool.{cases_Bool, cond-true, cond-false, or_parts, or_left, or_right}
use Rattle.std.proofs.lemmas.List.Elements.{Contains-append_left, Contains-append_right, Contains-append_cases}
use Rattle.module_groups.proofs.Members.{contains_here, contains_more, contains_cases, contains_none}

pub left_none : {Y : Type 0} (xs ys : List Y) → xs ++ ys ≡ [] → xs ≡ []
left_none [] ys e = refl
left_none (x ∷ xs) ys e = absurd (let f : x ∷ xs ++ ys ≡ [] = e in cc)

pub right_none : {Y : Type 0} (xs ys : List Y) → xs ++ ys ≡ [] → ys ≡ []
right_none [] ys e = e
right_none (x ∷ xs) ys e = absurd (let f : x ∷ xs ++ ys ≡ [] = e in cc)

-- where an item of several lists comes from
pub record ComesFrom {X Y : Type 0} (f : X → List Y) (xs : List X) (y : Y) : Type 0 where
  pub source : X
  pub listed : Contains xs source
  pub gives : Contains (f source) y

module _ {X Y : Type 0} (f : X → List Y) where
  pub comes_from : (xs : List X) (y : Y) → Contains (flat_map f xs) y → ComesFrom f xs y
  comes_from [] y h = absurd (contains_none y h)
  comes_from (x ∷ xs) y h =
      ⊎_elim (λ (own : Contains (f x) y). record { source = x; listed = contains_here x xs; gives = own })
      (λ (later : Contains (flat_map f xs) y).
      let it = comes_from xs y later in record { source = it.source; listed = contains_more x it.source xs it.listed; gives = it.gives })
      (Contains-append_cases (f x) (flat_map f xs) y h)

  pub goes_in : (xs : List X) (x : X) (y : Y) → Contains xs x → Contains (f x) y → Contains (flat_map f xs) y
  goes_in [] x y h own = absurd (contains_none x h)
  goes_in (z ∷ zs) x y h own =
      ⊎_elim (λ (e : z ≡ x). Contains-append_left (f z) (flat_map f zs) y (subst (λ (w : X). Contains (f w) y) (sym e) own))
      (λ (later : Contains zs x). Contains-append_right (f z) (flat_map f zs) y (goes_in zs x y later own)) (contains_cases z x zs h)

  pub none_in : (xs : List X) (x : X) → Contains xs x → flat_map f xs ≡ [] → f x ≡ []
  none_in [] x h e = absurd (contains_none x h)
  none_in (z ∷ zs) x h e =
      ⊎_elim (λ (same : z ≡ x). ap f (sym same) ∙ left_none (f z) (flat_map f zs) e)
      (λ (later : Contains zs x). none_in zs x later (right_none (f z) (flat_map f zs) e)) (contains_cases z x zs h)

pub kept_was_there : {X : Type 0} (p : X → Bool) (xs : List X) (x : X) → Contains (filter p xs) x → Contains xs x
kept_was_there p [] x h = h
kept_was_there {X} p (z ∷ zs) x h =
    ⊎_elim (λ (on : p z ≡ true).
    ⊎_elim (λ (e : z ≡ x). subst (λ (w : X). Contains (z ∷ zs) w) e (contains_here z zs))
    (λ (later : Contains (filter p zs) x). contains_more z x zs (kept_was_there p zs x later))
    (contains_cases z x (filter p zs) (subst (λ (ws : List X). Contains ws x) (cond-true (p z) (z ∷ filter p zs) (filter p zs) on) h)))
    (λ (off : p z ≡ false).
    contains_more z x zs (kept_was_there p zs x (subst (λ (ws : List X). Contains ws x) (cond-false (p z) (z ∷ filter p zs) (filter p zs) off) h)))
    (cases_Bool (p z))

-- the place of an item
pub record StandsAt {X : Type 0} (xs : List X) (x : X) : Type 0 where
  pub place : ℕ
  pub within : place < length xs
  pub found : slice_get xs place ≡ Some x

pub stands_at : {X : Type 0} (xs : List X) (x : X) → Contains xs x → StandsAt xs x
stands_at [] x h = absurd (contains_none x h)
stands_at (z ∷ zs) x h =
    ⊎_elim (λ (e : z ≡ x). record { place = zero; within = omega arith; found = ap (λ w. Some w) e })
    (λ (later : Contains zs x).
    let it = stands_at zs x later in
    let below = it.within in record { place = suc it.place; within = omega (arith, below); found = it.found }) (contains_cases z x zs h)

pub any_one : {X : Type 0} (p : X → Bool) (xs : List X) (x : X) → Contains xs x → p x ≡ true → list_any p xs ≡ true
any_one p [] x h on = absurd (contains_none x h)
any_one p (z ∷ zs) x h on =
    ⊎_elim (λ (e : z ≡ x). or_left (p z) (list_any p zs) (ap p e ∙ on))
    (λ (later : Contains zs x). or_right (p z) (list_any p zs) (any_one p zs x later on)) (contains_cases z x zs h)

pub none_one : {X : Type 0} (p : X → Bool) (xs : List X) (x : X) → Contains xs x → list_any p xs ≡ false → p x ≡ false
none_one p [] x h off = absurd (contains_none x h)
none_one p (z ∷ zs) x h off =
    let both = or_parts (p z) (list_any p zs) off in
    ⊎_elim (λ (e : z ≡ x). ap p (sym e) ∙ both.0) (λ (later : Contains zs x). none_one p zs x later both.1) (contains_cases z x zs h)
