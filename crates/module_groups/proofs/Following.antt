-- At most one list of groups follows, and each definition stands in exactly one of them.
use Rattle.std.proofs.Common.{◌≡◌, ℕ, ◌<◌, ◌≤◌, ◌↔◌, List, [], ◌∷◌, ◌++◌, refl, sym, ◌∙◌, ap, subst, arith, ◌⊎◌, inl, inr, ⊎_elim}
use Rattle.std.specs.List.{Contains}
use Rattle.std.proofs.lemmas.List.Elements.{Contains-append_cases}
use Rattle.module_groups.specs.Groups.{References, IsGroup, IsNext, Follow, AreGroups, AreTogether, AreInOne}
use Rattle.module_groups.proofs.Members.{contains_here, contains_more, contains_cases, contains_none, same_ascending}

-- two groups with one definition in common are the same
pub same_group : (count : ℕ) (refers : References) (group other : List ℕ) (a : ℕ) → IsGroup count refers group → IsGroup count refers other →
    Contains group a → Contains other a → group ≡ other
same_group count refers group other a one two in' also =
    same_ascending group other one.ascends two.ascends
    (λ b. (λ h. (two.exact a also b).1 ((one.exact a in' b).0 h), λ h. (one.exact a in' b).1 ((two.exact a also b).0 h)))

same_next : (count : ℕ) (refers : References) (taken group other : List ℕ) → IsNext count refers taken group → IsNext count refers taken other → group ≡ other
same_next count refers taken [] other one two = absurd (one.follows.whole.inhabited refl)
same_next count refers taken (a ∷ more) [] one two = absurd (two.follows.whole.inhabited refl)
same_next count refers taken (a ∷ more) (b ∷ others) one two =
    let low : a ≤ b = one.first (b ∷ others) two.follows in
    let high : b ≤ a = two.first (a ∷ more) one.follows in
    let e : b ≡ a = omega (arith, low, high) in
    same_group count refers (a ∷ more) (b ∷ others) a one.follows.whole two.follows.whole (contains_here a more)
    (subst (λ (x : ℕ). Contains (b ∷ others) x) e (contains_here b others))

-- where all are taken, no group follows
none_next : (count : ℕ) (refers : References) (taken group : List ℕ) → ((a : ℕ) → a < count → Contains taken a) → IsNext count refers taken group → ⊥
none_next count refers taken [] all next = next.follows.whole.inhabited refl
none_next count refers taken (a ∷ more) all next =
    let in' = contains_here a more in
    next.follows.apart a in' (all a ((next.follows.whole.exact a in' a).0 in').0)

pub same_following : (count : ℕ) (refers : References) (taken : List ℕ) (groups others : List (List ℕ)) →
    Follow count refers taken groups → Follow count refers taken others → groups ≡ others
same_following count refers taken [] [] one two = refl
same_following count refers taken [] (other ∷ others) one two = absurd (none_next count refers taken other one two.0)
same_following count refers taken (group ∷ groups) [] one two = absurd (none_next count refers taken group two one.0)
same_following count refers taken (group ∷ groups) (other ∷ others) one two =
    let e : group ≡ other = same_next count refers taken group other one.0 two.0 in
    let rest : groups ≡ others =
    same_following count refers (taken ++ group) groups others one.1
    (subst (λ (g : List ℕ). Follow count refers (taken ++ g) others) (sym e) two.1) in
    ap (λ (g : List ℕ). g ∷ groups) e ∙ ap (λ (gs : List (List ℕ)). other ∷ gs) rest

-- a definition is taken already, or stands in a group that follows
in_some : (count : ℕ) (refers : References) (taken : List ℕ) (groups : List (List ℕ)) → Follow count refers taken groups → (a : ℕ) → a < count →
    Contains taken a ⊎ ((group : List ℕ) × Contains groups group × Contains group a)
in_some count refers taken [] so a in' = inl (so a in')
in_some count refers taken (group ∷ groups) so a in' =
    ⊎_elim (λ (before : Contains (taken ++ group) a).
    ⊎_elim (λ (was : Contains taken a). inl was) (λ (now : Contains group a). inr (group, contains_here group groups, now))
    (Contains-append_cases taken group a before))
    (λ (later : (other : List ℕ) × Contains groups other × Contains other a).
    inr (later.0, contains_more group later.0 groups later.1, later.2))
    (in_some count refers (taken ++ group) groups so.1 a in')

each_whole : (count : ℕ) (refers : References) (taken : List ℕ) (groups : List (List ℕ)) → Follow count refers taken groups → (group : List ℕ) →
    Contains groups group → IsGroup count refers group
each_whole count refers taken [] so group in' = absurd (contains_none group in')
each_whole count refers taken (first ∷ groups) so group in' =
    ⊎_elim (λ (e : first ≡ group). subst (λ (g : List ℕ). IsGroup count refers g) e so.0.follows.whole)
    (λ (more : Contains groups group). each_whole count refers (taken ++ first) groups so.1 group more) (contains_cases first group groups in')

pub exactly_together : (count : ℕ) (refers : References) (groups : List (List ℕ)) → AreGroups count refers groups → (a b : ℕ) → a < count → b < count →
    AreInOne groups a b ↔ AreTogether refers a b
exactly_together count refers groups so a b in' also = (
  λ (group, has, has_a, has_b). let in_one = ((each_whole count refers [] groups so group has).exact a has_a b).0 has_b in in_one.1,
  λ h.
      ⊎_elim (λ (none : Contains [] a). absurd (contains_none a none))
      (λ (at : (group : List ℕ) × Contains groups group × Contains group a).
      (at.0, at.1, at.2, ((each_whole count refers [] groups so at.0 at.1).exact a at.2 b).1 (also, h)))
      (in_some count refers [] groups so a in'),
)
