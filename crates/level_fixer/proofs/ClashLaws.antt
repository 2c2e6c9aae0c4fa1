-- The tests on levels and sides tell where operators clash.
use Rattle.std.proofs.Common.{◌≡◌, ◌≢◌, ◌↔◌, ◌⊎◌, inl, inr, nat_eq, nat_lt, true, false, not, ◌&&◌, List, [], ◌∷◌, map, refl}
use Rattle.std.proofs.lemmas.Bool.{ltb-true, lt-ltb, eqb-true, eq-eqb, and_parts, and_from, or_cases, or_left, or_right, not-true, not_from_false}
use Rattle.elm_base.specs.declared.tree.Side.{Side}
use Rattle.elm_base.specs.declared.tree.Side.TheVariants as side
use Rattle.operator_trees.specs.declared.binding.Binding.{Binding}
use Rattle.operator_trees.specs.Binds.{Disagree, MeetsClash, HasClash}
use Rattle.level_fixer.specs.Clashes.{group_alike, disagree, meets_clash, has_clash}

unlike : (s t : Side) → (s ≢ t) ⊎ (s ≡ side.Neither) → group_alike s t ≡ false
unlike side.Left side.Left (inl h) = absurd (h refl)
unlike side.Left side.Left (inr h) = absurd (cc)
unlike side.Left side.Right h = refl
unlike side.Left side.Neither h = refl
unlike side.Right side.Left h = refl
unlike side.Right side.Right (inl h) = absurd (h refl)
unlike side.Right side.Right (inr h) = absurd (cc)
unlike side.Right side.Neither h = refl
unlike side.Neither t h = refl

not_alike : (s t : Side) → group_alike s t ≡ false → (s ≢ t) ⊎ (s ≡ side.Neither)
not_alike side.Left side.Left h = absurd (cc)
not_alike side.Left side.Right h = inl (λ z. cc)
not_alike side.Left side.Neither h = inl (λ z. cc)
not_alike side.Right side.Left h = inl (λ z. cc)
not_alike side.Right side.Right h = absurd (cc)
not_alike side.Right side.Neither h = inl (λ z. cc)
not_alike side.Neither t h = inr refl

told : (a b : Binding) → disagree a b ≡ true → Disagree a b
told a b h =
    let both = and_parts (nat_eq a.level b.level) (not (group_alike a.side b.side)) h in
    (eqb-true a.level b.level both.0, not_alike a.side b.side (not-true (group_alike a.side b.side) both.1))

tells : (a b : Binding) → Disagree a b → disagree a b ≡ true
tells a b (e, h) =
    and_from (nat_eq a.level b.level) (not (group_alike a.side b.side)) (eq-eqb a.level b.level e)
    (not_from_false (group_alike a.side b.side) (unlike a.side b.side h))

module _ {O : Type 0} (binding : O → Binding) where
  meets_told : (o : O) (os : List O) → meets_clash (binding o) (map binding os) ≡ true → MeetsClash binding o os
  meets_told o [] h = absurd (cc)
  meets_told o (p ∷ os) h =
      go (or_cases (disagree (binding o) (binding p)) (nat_lt (binding o).level (binding p).level && meets_clash (binding o) (map binding os)) h) (meets_told o os)
    where
      go : (disagree (binding o) (binding p) ≡ true) ⊎ ((nat_lt (binding o).level (binding p).level && meets_clash (binding o) (map binding os)) ≡ true)
          → (meets_clash (binding o) (map binding os) ≡ true → MeetsClash binding o os) → MeetsClash binding o (p ∷ os)
      go (inl k) more = inl (told (binding o) (binding p) k)
      go (inr k) more =
          let both = and_parts (nat_lt (binding o).level (binding p).level) (meets_clash (binding o) (map binding os)) k in
          inr (ltb-true (binding o).level (binding p).level both.0, more both.1)

  tells_meeting : (o : O) (os : List O) → MeetsClash binding o os → meets_clash (binding o) (map binding os) ≡ true
  tells_meeting o [] h = absurd h
  tells_meeting o (p ∷ os) (inl h) =
      or_left (disagree (binding o) (binding p)) (nat_lt (binding o).level (binding p).level && meets_clash (binding o) (map binding os))
      (tells (binding o) (binding p) h)
  tells_meeting o (p ∷ os) (inr h) =
      or_right (disagree (binding o) (binding p)) (nat_lt (binding o).level (binding p).level && meets_clash (binding o) (map binding os))
      (and_from (nat_lt (binding o).level (binding p).level) (meets_clash (binding o) (map binding os))
      (lt-ltb (binding o).level (binding p).level h.0) (tells_meeting o os h.1))

  clash_told : (os : List O) → has_clash (map binding os) ≡ true → HasClash binding os
  clash_told [] h = absurd (cc)
  clash_told (o ∷ os) h = go (or_cases (meets_clash (binding o) (map binding os)) (has_clash (map binding os)) h) (clash_told os)
    where
      go : (meets_clash (binding o) (map binding os) ≡ true) ⊎ (has_clash (map binding os) ≡ true)
          → (has_clash (map binding os) ≡ true → HasClash binding os) → HasClash binding (o ∷ os)
      go (inl k) more = inl (meets_told o os k)
      go (inr k) more = inr (more k)

  tells_clash : (os : List O) → HasClash binding os → has_clash (map binding os) ≡ true
  tells_clash [] h = absurd h
  tells_clash (o ∷ os) (inl h) = or_left (meets_clash (binding o) (map binding os)) (has_clash (map binding os)) (tells_meeting o os h)
  tells_clash (o ∷ os) (inr h) = or_right (meets_clash (binding o) (map binding os)) (has_clash (map binding os)) (tells_clash os h)

  pub clash_exactly : (os : List O) → (has_clash (map binding os) ≡ true) ↔ HasClash binding os
  clash_exactly os = (clash_told os, tells_clash os)
