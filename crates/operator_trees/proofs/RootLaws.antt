-- What the search for a root finds is the root, and where it finds none, operators clash.
use Rattle.std.proofs.Common.{◌≡◌, ◌≢◌, ℕ, ◌<◌, ◌⊎◌, nat_lt, Bool, true, false, inl, inr, List, [], ◌∷◌, ◌++◌, length, Option, Some, None, refl, sym, ◌∙◌, ap, subst, if◌then◌else◌, append_assoc, append-nil, arith}
use Rattle.std.proofs.lemmas.Bool.{ltb-true, ltb-false}
use Rattle.elm_base.specs.declared.tree.Side.{Side}
use Rattle.elm_base.specs.declared.tree.Side.TheVariants as side
use Rattle.operator_trees.specs.declared.binding.Binding.{Binding}
use Rattle.operator_trees.specs.declared.binding.Below.{Below}
use Rattle.operator_trees.specs.declared.binding.Below.TheVariants as below
use Rattle.operator_trees.specs.Binds.{MayStandLeft, MayStandRight, Disagree, Each, MeetsClash, HasClash}
use Rattle.operator_trees.specs.Roots.{grouped, which_below, found_by, rooted}
use Rattle.operator_trees.specs.Trees.{IsRoot}
use Rattle.operator_trees.proofs.Sides.{left_left, left_right, each_both, each_map}
use Rattle.operator_trees.proofs.Clashes.{clash_behind, clash_found}

-- what is said of two operators
abbrev pub Stand : Binding → Binding → Below → Type 0
Stand a b below.First = MayStandLeft b a
Stand a b below.Second = MayStandRight a b
Stand a b below.Neither = Disagree a b

same_level : (a b : Binding) → a.level ≡ b.level → (s t : Side) → a.side ≡ s → b.side ≡ t → Stand a b (grouped s t)
same_level a b e side.Left side.Left h k = inr (sym e, k, h)
same_level a b e side.Right side.Right h k = inr (e, h, k)
same_level a b e side.Left side.Right h k = (e, inl (λ z. cc))
same_level a b e side.Left side.Neither h k = (e, inl (λ z. cc))
same_level a b e side.Right side.Left h k = (e, inl (λ z. cc))
same_level a b e side.Right side.Neither h k = (e, inl (λ z. cc))
same_level a b e side.Neither t h k = (e, inr h)

pub stands : (a b : Binding) → Stand a b (which_below a b)
stands a b = go (nat_lt a.level b.level) (nat_lt b.level a.level) refl refl
  where
    go : (p q : Bool) → nat_lt a.level b.level ≡ p → nat_lt b.level a.level ≡ q
        → Stand a b (if p then below.Second else (if q then below.First else grouped a.side b.side))
    go true q e f = inl (ltb-true a.level b.level e)
    go false true e f = inl (ltb-true b.level a.level f)
    go false false e f = same_level a b (let x = ltb-false a.level b.level e in let y = ltb-false b.level a.level f in omega (arith, x, y)) a.side b.side refl refl

module _ {O : Type 0} (binding : O → Binding) where
  abbrev Left : O → O → Type 0
  Left o p = MayStandLeft (binding o) (binding p)

  abbrev Right : O → O → Type 0
  Right o p = MayStandRight (binding o) (binding p)

  -- a root so far, with what stands before it and what was seen behind it
  moved_before : (o c : O) (before ms : List O) → MayStandLeft (binding o) (binding c) → Each (Left c) before → Each (Right c) ms
      → Each (Left o) (before ++ c ∷ ms)
  moved_before o c before ms h left right =
      each_both (Left o) before (c ∷ ms)
      (each_map (Left c) (Left o) before (λ q k. left_left (binding o) (binding c) (binding q) h k) left)
      (h, each_map (Right c) (Left o) ms (λ q k. left_right (binding o) (binding c) (binding q) h k) right)

  pub finds_root : (before : List O) (c : O) (ms os : List O) (k : ℕ) → Each (Left c) before → Each (Right c) ms
      → rooted binding (binding c) (length (c ∷ (ms ++ os))) os ≡ Some k → IsRoot binding (before ++ (c ∷ (ms ++ os))) k
  finds_root before c ms [] k left right e =
      (before, c, ms ++ [], refl, cc, left, subst (Each (Right c)) (sym (append-nil ms)) right)
  finds_root before c ms (o ∷ os) k left right e =
      go (which_below (binding c) (binding o)) (stands (binding c) (binding o))
      (λ r. finds_root before c (ms ++ o ∷ []) os k left r) (λ l. finds_root (before ++ (c ∷ ms)) o [] os k l tt) e
    where
      longer : ms ++ (o ∷ os) ≡ (ms ++ o ∷ []) ++ os
      longer = sym (append_assoc ms (o ∷ []) os)

      go : (b : Below) → Stand (binding c) (binding o) b
          → (Each (Right c) (ms ++ o ∷ []) → rooted binding (binding c) (length (c ∷ ((ms ++ o ∷ []) ++ os))) os ≡ Some k
          → IsRoot binding (before ++ (c ∷ ((ms ++ o ∷ []) ++ os))) k)
          → (Each (Left o) (before ++ (c ∷ ms)) → rooted binding (binding o) (length (o ∷ os)) os ≡ Some k
          → IsRoot binding ((before ++ (c ∷ ms)) ++ (o ∷ os)) k)
          → found_by b (rooted binding (binding c) (length (c ∷ (ms ++ (o ∷ os)))) os) (rooted binding (binding o) (length (o ∷ os)) os) ≡ Some k
          → IsRoot binding (before ++ (c ∷ (ms ++ (o ∷ os)))) k
      go below.Second s stays moves h =
          subst (λ xs. IsRoot binding (before ++ (c ∷ xs)) k) (sym longer)
          (stays (each_both (Right c) ms (o ∷ []) right (s, tt))
          (subst (λ xs. rooted binding (binding c) (length (c ∷ xs)) os ≡ Some k) longer h))
      go below.First s stays moves h =
          subst (λ xs. IsRoot binding xs k) (append_assoc before (c ∷ ms) (o ∷ os)) (moves (moved_before o c before ms s left right) h)
      go below.Neither s stays moves h = absurd (cc)

  pub finds_clash : (c : O) (ms os : List O) (left : ℕ) → Each (Right c) ms
      → rooted binding (binding c) left os ≡ None → HasClash binding (c ∷ (ms ++ os))
  finds_clash c ms [] left right e = absurd (cc)
  finds_clash c ms (o ∷ os) left right e =
      go (which_below (binding c) (binding o)) (stands (binding c) (binding o))
      (λ r. finds_clash c (ms ++ o ∷ []) os left r) (finds_clash o [] os (length (o ∷ os)) tt) e
    where
      longer : ms ++ (o ∷ os) ≡ (ms ++ o ∷ []) ++ os
      longer = sym (append_assoc ms (o ∷ []) os)

      go : (b : Below) → Stand (binding c) (binding o) b
          → (Each (Right c) (ms ++ o ∷ []) → rooted binding (binding c) left os ≡ None → HasClash binding (c ∷ ((ms ++ o ∷ []) ++ os)))
          → (rooted binding (binding o) (length (o ∷ os)) os ≡ None → HasClash binding (o ∷ os))
          → found_by b (rooted binding (binding c) left os) (rooted binding (binding o) (length (o ∷ os)) os) ≡ None
          → HasClash binding (c ∷ (ms ++ (o ∷ os)))
      go below.Second s stays moves h =
          subst (λ xs. HasClash binding (c ∷ xs)) (sym longer) (stays (each_both (Right c) ms (o ∷ []) right (s, tt)) h)
      go below.First s stays moves h = clash_behind binding (c ∷ ms) (o ∷ os) (moves h)
      go below.Neither s stays moves h = clash_found binding c o ms os s right

  -- of all operators
  pub root_of_all : (o : O) (os : List O) (k : ℕ) → rooted binding (binding o) (length (o ∷ os)) os ≡ Some k → IsRoot binding (o ∷ os) k
  root_of_all o os k e = finds_root [] o [] os k tt tt e

  pub clash_of_all : (o : O) (os : List O) (left : ℕ) → rooted binding (binding o) left os ≡ None → HasClash binding (o ∷ os)
  clash_of_all o os left e = finds_clash o [] os left tt e
