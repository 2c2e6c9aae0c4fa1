-- The groups in a closed table: who is together, what is free, and that something always is.
use Rattle.std.proofs.Common.{◌≡◌, ℕ, zero, suc, ◌<◌, ◌≤◌, Bool, true, false, not, ◌&&◌, nat_eq, IsTrue, ◌↔◌, List, [], ◌∷◌, ◌++◌, length, Some, None, refl, sym, ◌∙◌, subst, arith, ◌⊎◌, inl, inr, ⊎_elim}
use Rattle.std.specs.List.{Contains, filter, range_with_len}
use Rattle.std.proofs.lemmas.Bool.{cases_Bool, or_cases, or_left, or_right, and_parts, and_from, eqb-true, eq-eqb, cases_lt, false≢true, not-true, not_from_false, false_from_ne_true}
use Rattle.std.proofs.lemmas.List.Elements.{Contains-append_left, Contains-append_right, Contains-append_cases}
use Rattle.bit_rows.specs.Table.{Table, bit_of}
use Rattle.module_groups.specs.Groups.{References, Reaches, at_once, over, AreTogether, Ascends, IsGroup, AreApart, IsReady, MayFollow, IsNext, StandsFirst, ReachesItself}
use Rattle.module_groups.specs.Search.{together, members_below, is_taken, waits_for, IsFree, IsPassedOver, IsFirstFree}
use Rattle.module_groups.proofs.Reaching.{IsClosure}
use Rattle.module_groups.proofs.Members.{contains_here, contains_none, range_has, range_within, kept, was_kept, kept_ascends, first_least, counts_less}

-- what a taken definition refers to is taken
abbrev pub IsClosedUnder : References → List ℕ → Type 0
IsClosedUnder refers taken = (a b : ℕ) → Contains taken a → IsTrue (refers a b) → Contains taken b

-- what it reaches is taken too
pub stays_in : (refers : References) (taken : List ℕ) → IsClosedUnder refers taken → (a b : ℕ) → Contains taken a → Reaches refers a b → Contains taken b
stays_in refers taken closed a b in' (at_once h) = closed a b in' h
stays_in refers taken closed a c in' (over {b = b} first second) =
    stays_in refers taken closed b c (stays_in refers taken closed a b in' first) second

-- the marks say which definitions are taken
abbrev pub AreMarked : List Bool → List ℕ → Type 0
AreMarked marks taken = (a : ℕ) → IsTrue (is_taken marks a) ↔ Contains taken a

-- a group that is ready, behind what is closed, makes it closed again
pub closed_more : (refers : References) (taken group : List ℕ) → IsClosedUnder refers taken → IsReady refers taken group → IsClosedUnder refers (taken ++ group)
closed_more refers taken group closed ready a b in' h =
    ⊎_elim (λ (was : Contains taken a). Contains-append_left taken group b (closed a b was h))
    (λ (new : Contains group a).
    ⊎_elim (λ (also : Contains group b). Contains-append_right taken group b also)
    (λ (was : Contains taken b). Contains-append_left taken group b was) (ready a b new h))
    (Contains-append_cases taken group a in')

module _ (count : ℕ) (refers : References) (reached : Table) (so : IsClosure count refers reached) where
  pub together_yes : (a b : ℕ) → IsTrue (together reached a b) → AreTogether refers a b
  together_yes a b h =
      ⊎_elim (λ (e : nat_eq a b ≡ true). inl (eqb-true a b e))
      (λ (both : (bit_of reached a b && bit_of reached b a) ≡ true).
      let parts = and_parts (bit_of reached a b) (bit_of reached b a) both in inr (so.says.sound a b parts.0, so.says.sound b a parts.1))
      (or_cases (nat_eq a b) (bit_of reached a b && bit_of reached b a) h)

  pub together_from : (a b : ℕ) → AreTogether refers a b → IsTrue (together reached a b)
  together_from a b h =
      ⊎_elim (λ (e : a ≡ b). or_left (nat_eq a b) (bit_of reached a b && bit_of reached b a) (eq-eqb a b e))
      (λ (both : Reaches refers a b × Reaches refers b a).
      or_right (nat_eq a b) (bit_of reached a b && bit_of reached b a)
      (and_from (bit_of reached a b) (bit_of reached b a) (so.says.complete a b both.0) (so.says.complete b a both.1))) h

  -- being together goes on from one to the next, and back
  pub together_back : (a b : ℕ) → AreTogether refers a b → AreTogether refers b a
  together_back a b h = ⊎_elim (λ (e : a ≡ b). inl (sym e)) (λ (both : Reaches refers a b × Reaches refers b a). inr (both.1, both.0)) h

  pub together_on : (a b c : ℕ) → AreTogether refers a b → AreTogether refers b c → AreTogether refers a c
  together_on a b c h k =
      ⊎_elim (λ (e : a ≡ b). subst (λ (x : ℕ). AreTogether refers x c) (sym e) k)
      (λ (ab : Reaches refers a b × Reaches refers b a).
      ⊎_elim (λ (e : b ≡ c). subst (λ (x : ℕ). AreTogether refers a x) e h)
      (λ (bc : Reaches refers b c × Reaches refers c b). inr (over ab.0 bc.0, over bc.1 ab.1)) k) h

  pub member_from : (a b : ℕ) → b < count → AreTogether refers a b → Contains (members_below reached a count) b
  member_from a b in' h =
      kept (together reached a) (range_with_len 0 count) b (range_has 0 count b (omega arith) (omega (arith, in'))) (together_from a b h)

  pub member_is : (a b : ℕ) → Contains (members_below reached a count) b → (b < count) × AreTogether refers a b
  member_is a b h =
      let was = was_kept (together reached a) (range_with_len 0 count) b h in
      let in' = range_within 0 count b was.0 in (omega (arith, in'.1), together_yes a b was.1)

  pub IsGroup-members : (a : ℕ) → a < count → IsGroup count refers (members_below reached a count)
  IsGroup-members a in' = record {
    inhabited = λ e. contains_none a (subst (λ (xs : List ℕ). Contains xs a) e (member_from a a in' (inl refl)));
    ascends = kept_ascends (together reached a) 0 count;
    exact = λ b h c.
        let first = (member_is a b h).1 in (
          λ k. let second = member_is a c k in (second.0, together_on b a c (together_back a b first) second.1),
          λ k. member_from a c k.0 (together_on a b c first k.1),
        );
  }

  -- a definition that is free makes its group ready
  module _ (marks : List Bool) (taken : List ℕ) (marked : AreMarked marks taken) where
    waits_parts : (a c : ℕ) → waits_for reached marks a c ≡ true →
        IsTrue (bit_of reached a c) × (bit_of reached c a ≡ false) × (is_taken marks c ≡ false)
    waits_parts a c h =
        let one = and_parts (bit_of reached a c) (not (bit_of reached c a) && not (is_taken marks c)) h in
        let two = and_parts (not (bit_of reached c a)) (not (is_taken marks c)) one.1 in
        (one.0, not-true (bit_of reached c a) two.0, not-true (is_taken marks c) two.1)

    free_gives : (a c : ℕ) → IsFree reached marks a → IsTrue (bit_of reached a c) → IsTrue (bit_of reached c a) ⊎ Contains taken c
    free_gives a c free h =
        ⊎_elim (λ (back : bit_of reached c a ≡ true). inl back)
        (λ (out : bit_of reached c a ≡ false).
        ⊎_elim (λ (yes : is_taken marks c ≡ true). inr ((marked c).0 yes))
        (λ (left : is_taken marks c ≡ false).
        absurd (false≢true (sym (free c) ∙ and_from (bit_of reached a c) (not (bit_of reached c a) && not (is_taken marks c)) h
        (and_from (not (bit_of reached c a)) (not (is_taken marks c)) (not_from_false (bit_of reached c a) out) (not_from_false (is_taken marks c) left)))))
        (cases_Bool (is_taken marks c))) (cases_Bool (bit_of reached c a))

    IsReady-free : (a : ℕ) → IsFree reached marks a → IsReady refers taken (members_below reached a count)
    IsReady-free a free b c in' h =
        let near = member_is a b in' in
        let leads : Reaches refers a c =
        ⊎_elim (λ (e : a ≡ b). at_once (subst (λ (x : ℕ). IsTrue (refers x c)) (sym e) h))
        (λ (both : Reaches refers a b × Reaches refers b a). over both.0 (at_once h)) near.1 in
        let at = so.says.complete a c leads in
        ⊎_elim (λ (back : IsTrue (bit_of reached c a)). inl (member_from a c (so.within a c at).1 (inr (leads, so.says.sound c a back))))
        (λ (was : Contains taken c). inr was) (free_gives a c free at)

    AreApart-left : (a : ℕ) → IsClosedUnder refers taken → is_taken marks a ≡ false → AreApart taken (members_below reached a count)
    AreApart-left a closed left b in' was =
        let none : Contains taken a → ⊥ = λ yes. false≢true (sym left ∙ (marked a).1 yes) in
        ⊎_elim (λ (e : a ≡ b). none (subst (λ (x : ℕ). Contains taken x) (sym e) was))
        (λ (both : Reaches refers a b × Reaches refers b a). none (stays_in refers taken closed b a was both.1)) (member_is a b in').1

    -- whose group may follow isn't passed over
    not_passed : (other : List ℕ) → IsClosedUnder refers taken → MayFollow count refers taken other → (b : ℕ) → Contains other b → IsPassedOver reached marks b → ⊥
    not_passed other closed may b in' over' =
        ⊎_elim (λ (yes : is_taken marks b ≡ true). may.apart b in' ((marked b).0 yes))
        (λ (waits : (c : ℕ) × (waits_for reached marks b c ≡ true)).
        let c = waits.0 in
        let parts = waits_parts b c waits.1 in
        let leads : Reaches refers b c = so.says.sound b c parts.0 in
        ⊎_elim (λ (was : Contains taken c). false≢true (sym parts.2 ∙ (marked c).1 was))
        (λ (also : Contains other c).
        ⊎_elim (λ (e : b ≡ c). false≢true (sym parts.1 ∙ subst (λ (x : ℕ). IsTrue (bit_of reached x b)) e (subst (λ (x : ℕ). IsTrue (bit_of reached b x)) (sym e) parts.0)))
        (λ (both : Reaches refers b c × Reaches refers c b). false≢true (sym parts.1 ∙ so.says.complete c b both.1)) ((may.whole.exact b in' c).0 also).1)
        (Contains-append_cases taken other c
        (stays_in refers (taken ++ other) (closed_more refers taken other closed may.ready) b c (Contains-append_right taken other b in') leads))) over'

    stands_first : (group other : List ℕ) (a : ℕ) → Ascends group → Contains group a → ((b : ℕ) → Contains other b → a ≤ b) → StandsFirst group other
    stands_first [] other a up in' below = tt
    stands_first (x ∷ more) [] a up in' below = tt
    stands_first (x ∷ more) (y ∷ others) a up in' below =
        omega (arith, first_least x more a up in', below y (contains_here y others))

    pub IsNext-first : (a : ℕ) → IsClosedUnder refers taken → IsFirstFree count reached marks (Some a) → IsNext count refers taken (members_below reached a count)
    IsNext-first a closed found = record {
      follows = record {
        whole = IsGroup-members a found.0;
        apart = AreApart-left a closed found.1;
        ready = IsReady-free a found.2;
      };
      first = λ other may.
          stands_first (members_below reached a count) other a (kept_ascends (together reached a) 0 count) (member_from a a found.0 (inl refl))
          (λ b in'.
          ⊎_elim (λ (low : b < a). absurd (not_passed other closed may b in' (found.3 b low))) (λ (high : a ≤ b). high) (cases_lt b a));
    }

    -- how much a definition reaches that doesn't reach it
    leads_out : ℕ → ℕ → Bool
    leads_out a c = bit_of reached a c && not (bit_of reached c a)

    out_parts : (a c : ℕ) → leads_out a c ≡ true → IsTrue (bit_of reached a c) × (bit_of reached c a ≡ false)
    unfolding leads_out
    out_parts a c h =
        let both = and_parts (bit_of reached a c) (not (bit_of reached c a)) h in (both.0, not-true (bit_of reached c a) both.1)

    out_from : (a c : ℕ) → IsTrue (bit_of reached a c) → bit_of reached c a ≡ false → leads_out a c ≡ true
    unfolding leads_out
    out_from a c h k = and_from (bit_of reached a c) (not (bit_of reached c a)) h (not_from_false (bit_of reached c a) k)

    joined : (a b c : ℕ) → IsTrue (bit_of reached a b) → IsTrue (bit_of reached b c) → IsTrue (bit_of reached a c)
    joined a b c h k = so.says.complete a c (over (so.says.sound a b h) (so.says.sound b c k))

    leads_less : (a c : ℕ) → IsTrue (bit_of reached a c) → bit_of reached c a ≡ false →
        length (filter (leads_out c) (range_with_len 0 count)) < length (filter (leads_out a) (range_with_len 0 count))
    leads_less a c h out =
        counts_less (leads_out c) (leads_out a)
        (λ x k.
        let parts = out_parts c x k in
        out_from a x (joined a c x h parts.0)
        (false_from_ne_true (bit_of reached x a) (λ (back : bit_of reached x a ≡ true). false≢true (sym parts.1 ∙ joined x a c back h))))
        (range_with_len 0 count) c (range_has 0 count c (omega arith) (omega (arith, (so.within a c h).1)))
        (false_from_ne_true (leads_out c c) (λ (yes : leads_out c c ≡ true). let parts = out_parts c c yes in false≢true (sym parts.1 ∙ parts.0)))
        (out_from a c h out)

    taken_below : IsFirstFree count reached marks None → (n a : ℕ) → a < count → length (filter (leads_out a) (range_with_len 0 count)) < n → is_taken marks a ≡ true
    taken_below none zero a in' small = absurd (omega (arith, small))
    taken_below none (suc n) a in' small =
        ⊎_elim (λ (yes : is_taken marks a ≡ true). yes)
        (λ (waits : (c : ℕ) × (waits_for reached marks a c ≡ true)).
        let c = waits.0 in
        let parts = waits_parts a c waits.1 in
        absurd (false≢true (sym parts.2 ∙ taken_below none n c (so.within a c parts.0).1 (omega (arith, small, leads_less a c parts.0 parts.1)))))
        (none a in')

    pub all_taken : IsFirstFree count reached marks None → (a : ℕ) → a < count → Contains taken a
    all_taken none a in' = (marked a).0 (taken_below none (suc (length (filter (leads_out a) (range_with_len 0 count)))) a in' (omega arith))

  pub itself_yes : (a : ℕ) → IsTrue (bit_of reached a a) → a < count → ReachesItself refers (members_below reached a count)
  itself_yes a h in' = (a, a, member_from a a in' (inl refl), member_from a a in' (inl refl), so.says.sound a a h)

  pub itself_only : (a : ℕ) → ReachesItself refers (members_below reached a count) → IsTrue (bit_of reached a a)
  itself_only a (x, y, in', also, leads) =
      let near = (member_is a x in').1 in
      let far = (member_is a y also).1 in
      let out : Reaches refers a y =
      ⊎_elim (λ (e : a ≡ x). subst (λ (z : ℕ). Reaches refers z y) (sym e) leads) (λ (both : Reaches refers a x × Reaches refers x a). over both.0 leads) near in
      so.says.complete a a
      (⊎_elim (λ (e : a ≡ y). subst (λ (z : ℕ). Reaches refers a z) (sym e) out) (λ (both : Reaches refers a y × Reaches refers y a). over out both.1) far)
