-- The test of the order of first use, against what it tells.
use Rattle.std.proofs.Common.{◌≡◌, ◌<◌, ◌≤◌, ◌==◌, max, ℕ, zero, suc, Bool, true, false, true≢false, nat_le, IsTrue, if◌then◌else◌, List, [], ◌∷◌, Option, Some, None, refl, sym, ◌∙◌, ap, arith}
use Rattle.serde_json.specs.Data.{Data}
use Rattle.session_form.specs.Reader.{place_in}
use Rattle.session_file.specs.Sessions.{in_order, is_usable, used_after}
use Rattle.session_file.specs.Order.{used_at, Uses, UsesBefore, IsOrderOfUse, InOrderTells}

-- as `IsOrderOfUse`, where so many inputs were used before
record From (count used : ℕ) (ds : List Data) : Type 0 where
  enough : used ≤ count
  known : (at place : ℕ) → used_at ds at ≡ Some place → place < count
  all : (place : ℕ) → place < count → used ≤ place → Uses ds place
  ordered : (at place smaller : ℕ) → used_at ds at ≡ Some place → smaller < place → used ≤ smaller → UsesBefore ds at smaller

none_is : {A : Type 0} (x : A) → None ≡ Some x → ⊥
none_is x e = cc

some_is : {A : Type 0} (x y : A) → Some x ≡ Some y → x ≡ y
some_is x y e = cc

later : (d : Data) (ds : List Data) (at place : ℕ) → UsesBefore ds at place → UsesBefore (d ∷ ds) (suc at) place
later d ds at place h = (suc h.0, omega (arith, h.1), h.2)

-- ---- no event is left

at_end : (count used : ℕ) → (used == count) ≡ true → From count used []
at_end count used h =
    let same : used ≡ count = grind (arith, h) in record {
      enough = omega (arith, same);
      known = λ at place e. absurd (none_is place e);
      all = λ place below least. absurd (omega (arith, same, below, least));
      ordered = λ at place smaller e below least. absurd (none_is place e);
    }

end_is : (count used : ℕ) → From count used [] → (used == count) ≡ true
end_is count used h = go (used == count) refl where
  go : (b : Bool) → (used == count) ≡ b → (used == count) ≡ true
  go true e = e
  go false e =
      let apart : used < count = grind (arith, e, h.enough) in
      let found = h.all used apart (omega arith) in
      absurd (none_is used found.1)

-- ---- an event that uses none

module _ (count used : ℕ) (d : Data) (ds : List Data) (is : place_in d ≡ None) where
  none_here : (place : ℕ) → place_in d ≡ Some place → ⊥
  none_here place e = none_is place (sym is ∙ e)

  past : From count used ds → From count used (d ∷ ds)
  past h = record {
    enough = h.enough;
    known = known;
    all = λ place below least. let found = h.all place below least in (suc found.0, found.1);
    ordered = ordered;
  } where
    known : (at place : ℕ) → used_at (d ∷ ds) at ≡ Some place → place < count
    known zero place e = absurd (none_here place e)
    known (suc at) place e = h.known at place e

    ordered : (at place smaller : ℕ) → used_at (d ∷ ds) at ≡ Some place → smaller < place → used ≤ smaller → UsesBefore (d ∷ ds) at smaller
    ordered zero place smaller e below least = absurd (none_here place e)
    ordered (suc at) place smaller e below least = later d ds at smaller (h.ordered at place smaller e below least)

  left : From count used (d ∷ ds) → From count used ds
  left h = record {
    enough = h.enough;
    known = λ at place e. h.known (suc at) place e;
    all = λ place below least. all place (h.all place below least);
    ordered = λ at place smaller e below least. ordered at smaller (h.ordered (suc at) place smaller e below least);
  } where
    all : (place : ℕ) → Uses (d ∷ ds) place → Uses ds place
    all place (zero, e) = absurd (none_here place e)
    all place (suc at, e) = (at, e)

    ordered : (at smaller : ℕ) → UsesBefore (d ∷ ds) (suc at) smaller → UsesBefore ds at smaller
    ordered at smaller (zero, h, e) = absurd (none_here smaller e)
    ordered at smaller (suc earlier, h, e) = (earlier, omega (arith, h), e)

-- ---- an event that uses one

module _ (count used p : ℕ) (d : Data) (ds : List Data) (is : place_in d ≡ Some p) where
  here : (place : ℕ) → place_in d ≡ Some place → p ≡ place
  here place e = some_is p place (sym is ∙ e)

  onward : p ≤ used → From count (max used (suc p)) ds → From count used (d ∷ ds)
  onward usable h = record {
    enough = let enough = h.enough in omega (arith, enough);
    known = known;
    all = all;
    ordered = ordered;
  } where
    known : (at place : ℕ) → used_at (d ∷ ds) at ≡ Some place → place < count
    known zero place e = let same = here place e in let enough = h.enough in omega (arith, same, enough)
    known (suc at) place e = h.known at place e

    all : (place : ℕ) → place < count → used ≤ place → Uses (d ∷ ds) place
    all place below least = go (place == p) refl where
      go : (b : Bool) → (place == p) ≡ b → Uses (d ∷ ds) place
      go true e = let same : p ≡ place = grind (arith, e) in (zero, is ∙ ap Some same)
      go false e =
          let apart : max used (suc p) ≤ place = grind (arith, e, least, usable) in
          let found = h.all place below apart in
          (suc found.0, found.1)

    ordered : (at place smaller : ℕ) → used_at (d ∷ ds) at ≡ Some place → smaller < place → used ≤ smaller → UsesBefore (d ∷ ds) at smaller
    ordered zero place smaller e below least = let same = here place e in absurd (omega (arith, same, below, least, usable))
    ordered (suc at) place smaller e below least = go (smaller == p) refl where
      go : (b : Bool) → (smaller == p) ≡ b → UsesBefore (d ∷ ds) (suc at) smaller
      go true k = let same : p ≡ smaller = grind (arith, k) in (zero, omega arith, is ∙ ap Some same)
      go false k =
          let apart : max used (suc p) ≤ smaller = grind (arith, k, least, usable) in
          later d ds at smaller (h.ordered at place smaller e below apart)

  usable_is : From count used (d ∷ ds) → p ≤ used
  usable_is h = go (nat_le p used) refl where
    go : (b : Bool) → nat_le p used ≡ b → p ≤ used
    go true e = grind (arith, e)
    go false e =
        let above : used < p = grind (arith, e) in
        let before = h.ordered zero p used is above (omega arith) in
        absurd (omega (arith, before.1))

  behind : p ≤ used → From count used (d ∷ ds) → From count (max used (suc p)) ds
  behind usable h = record {
    enough = let enough = h.enough in let own = h.known zero p is in omega (arith, enough, own);
    known = λ at place e. h.known (suc at) place e;
    all = λ place below least. all place least (h.all place below (omega (arith, least)));
    ordered = λ at place smaller e below least. ordered at smaller least (h.ordered (suc at) place smaller e below (omega (arith, least)));
  } where
    all : (place : ℕ) → max used (suc p) ≤ place → Uses (d ∷ ds) place → Uses ds place
    all place least (zero, e) = let same = here place e in absurd (omega (arith, same, least))
    all place least (suc at, e) = (at, e)

    ordered : (at smaller : ℕ) → max used (suc p) ≤ smaller → UsesBefore (d ∷ ds) (suc at) smaller → UsesBefore ds at smaller
    ordered at smaller least (zero, h, e) = let same = here smaller e in absurd (omega (arith, same, least))
    ordered at smaller least (suc earlier, h, e) = (earlier, omega (arith, h), e)

-- ---- the test

abbrev Next : ℕ → ℕ → List Data → Option ℕ → Bool
Next count used ds place = if is_usable used place then in_order count (used_after used place) ds else false

both : (b c : Bool) → (if b then c else false) ≡ true → (b ≡ true) × (c ≡ true)
both true c h = (refl, h)
both false c h = absurd (true≢false (sym h))

by_event : (count used : ℕ) (d : Data) (ds : List Data) → ((n : ℕ) → in_order count n ds ≡ true → From count n ds)
    → (place : Option ℕ) → place_in d ≡ place → Next count used ds place ≡ true → From count used (d ∷ ds)
by_event count used d ds rest None is h = past count used d ds is (rest used h)
by_event count used d ds rest (Some p) is h =
    let parts = both (nat_le p used) _ h in
    let usable : p ≤ used = grind (arith, parts.0) in
    onward count used p d ds is usable (rest (max used (suc p)) parts.1)

tells : (count used : ℕ) (ds : List Data) → in_order count used ds ≡ true → From count used ds
tells count used [] h = at_end count used h
tells count used (d ∷ ds) h = by_event count used d ds (λ n. tells count n ds) (place_in d) refl h

of_event : (count used : ℕ) (d : Data) (ds : List Data) → ((n : ℕ) → From count n ds → in_order count n ds ≡ true)
    → From count used (d ∷ ds) → (place : Option ℕ) → place_in d ≡ place → Next count used ds place ≡ true
of_event count used d ds rest h None is = rest used (left count used d ds is h)
of_event count used d ds rest h (Some p) is =
    let usable = usable_is count used p d ds is h in
    let test : nat_le p used ≡ true = grind (arith, usable) in
    ap (λ b. if b then in_order count (max used (suc p)) ds else false) test
    ∙ rest (max used (suc p)) (behind count used p d ds is usable h)

told : (count used : ℕ) (ds : List Data) → From count used ds → in_order count used ds ≡ true
told count used [] h = end_is count used h
told count used (d ∷ ds) h = of_event count used d ds (λ n. told count n ds) h (place_in d) refl

pub in_order_tells : InOrderTells
in_order_tells count ds = (onto, back) where
  onto : IsTrue (in_order count 0 ds) → IsOrderOfUse count ds
  onto h = let facts = tells count 0 ds h in record {
    known = λ place found. facts.known found.0 place found.1;
    used = λ place below. facts.all place below (omega arith);
    ordered = λ at place smaller e below. facts.ordered at place smaller e below (omega arith);
  }

  back : IsOrderOfUse count ds → IsTrue (in_order count 0 ds)
  back h = told count 0 ds (record {
    enough = omega arith;
    known = λ at place e. h.known place (at, e);
    all = λ place below least. h.used place below;
    ordered = λ at place smaller e below least. h.ordered at place smaller e below;
  })
