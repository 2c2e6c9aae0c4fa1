-- Where operators clash: in which parts of a list, and that they clash in none of a tree's.
use Rattle.std.proofs.Common.{◌≡◌, ◌≢◌, ℕ, ◌<◌, ◌⊎◌, inl, inr, List, [], ◌∷◌, ◌++◌, refl, sym, ◌∙◌, ap, arith}
use Rattle.elm_base.specs.declared.tree.Side.TheVariants as side
use Rattle.operator_trees.specs.declared.binding.Binding.{Binding}
use Rattle.operator_trees.specs.Binds.{MayStandLeft, MayStandRight, Disagree, Each, MeetsClash, HasClash}
use Rattle.operator_trees.specs.Trees.{OperatorTree, Operand, Applied, operators, Respects}
use Rattle.operator_trees.proofs.Sides.{left_agrees, right_agrees, all_left, all_right}

module _ {O : Type 0} (binding : O → Binding) where
  abbrev Left : O → O → Type 0
  Left o p = MayStandLeft (binding o) (binding p)

  abbrev Right : O → O → Type 0
  Right o p = MayStandRight (binding o) (binding p)

  -- a clash behind, and a clash before
  pub clash_behind : (xs ys : List O) → HasClash binding ys → HasClash binding (xs ++ ys)
  clash_behind [] ys h = h
  clash_behind (x ∷ xs) ys h = inr (clash_behind xs ys h)

  meets_before : (o : O) (xs ys : List O) → MeetsClash binding o xs → MeetsClash binding o (xs ++ ys)
  meets_before o [] ys h = absurd h
  meets_before o (x ∷ xs) ys (inl h) = inl h
  meets_before o (x ∷ xs) ys (inr h) = inr (h.0, meets_before o xs ys h.1)

  pub clash_before : (xs ys : List O) → HasClash binding xs → HasClash binding (xs ++ ys)
  clash_before [] ys h = absurd h
  clash_before (x ∷ xs) ys (inl h) = inl (meets_before x xs ys h)
  clash_before (x ∷ xs) ys (inr h) = inr (clash_before xs ys h)

  -- a root clashes with none behind it, and none before it with it
  root_meets_none : (o : O) (ys : List O) → Each (Right o) ys → MeetsClash binding o ys → ⊥
  root_meets_none o [] all h = h
  root_meets_none o (y ∷ ys) all (inl h) = right_agrees (binding o) (binding y) all.0 h
  root_meets_none o (y ∷ ys) all (inr h) = root_meets_none o ys all.1 h.1

  stops_at_root : (x o : O) (xs ys : List O) → Left o x → MeetsClash binding x (xs ++ o ∷ ys) → MeetsClash binding x xs
  stops_at_root x o [] ys may (inl h) = left_agrees (binding o) (binding x) may h
  stops_at_root x o [] ys (inl may) (inr h) = absurd (omega (arith, may, h.0))
  stops_at_root x o [] ys (inr may) (inr h) = absurd (omega (arith, may.0, h.0))
  stops_at_root x o (z ∷ xs) ys may (inl h) = inl h
  stops_at_root x o (z ∷ xs) ys may (inr h) = inr (h.0, stops_at_root x o xs ys may h.1)

  -- so what clashes stands on one side of a root
  pub clash_beside : (o : O) (xs ys : List O) → Each (Left o) xs → Each (Right o) ys
      → HasClash binding (xs ++ o ∷ ys) → HasClash binding xs ⊎ HasClash binding ys
  clash_beside o [] ys before after (inl h) = absurd (root_meets_none o ys after h)
  clash_beside o [] ys before after (inr h) = inr h
  clash_beside o (x ∷ xs) ys before after (inl h) = inl (inl (stops_at_root x o xs ys before.0 h))
  clash_beside o (x ∷ xs) ys before after (inr h) = go (clash_beside o xs ys before.1 after h)
    where
      go : HasClash binding xs ⊎ HasClash binding ys → HasClash binding (x ∷ xs) ⊎ HasClash binding ys
      go (inl k) = inl (inr k)
      go (inr k) = inr k

  -- the operators of a tree don't clash
  pub tree_has_none : {E : Type 0} (t : OperatorTree O E) → Respects binding t → HasClash binding (operators t) → ⊥
  tree_has_none (Operand e) r h = h
  tree_has_none (Applied o a b) r h =
      go (tree_has_none a r.2) (tree_has_none b r.3)
      (clash_beside o (operators a) (operators b) (all_left binding o a r.2 r.0) (all_right binding o b r.3 r.1) h)
    where
      go : {A B : Type 0} → (A → ⊥) → (B → ⊥) → A ⊎ B → ⊥
      go f g (inl x) = f x
      go f g (inr x) = g x

  -- what stands in the right side of an operator stands in that of one of its level that groups to the right as it does
  right_again : (c m : O) (qs : List O) → MayStandRight (binding m) (binding m) → (binding c).level ≡ (binding m).level
      → (binding m).side ≡ side.Right → Each (Right c) qs → Each (Right m) qs
  right_again c m [] own same to all = tt
  right_again c m (q ∷ qs) own same to all = (go all.0, right_again c m qs own same to all.1)
    where
      go : Right c q → Right m q
      go (inl h) = inl (omega (arith, h, same))
      go (inr h) = inr (sym same ∙ h.0, to, h.2)

  -- An operator disagrees with a later one, and all between them may stand in its right side.
  pub clash_found : (c o : O) (ms os : List O) → Disagree (binding c) (binding o) → Each (Right c) ms
      → MeetsClash binding c (ms ++ o ∷ os) ⊎ HasClash binding (ms ++ o ∷ os)
  clash_found c o [] os d all = inl (inl d)
  clash_found c o (m ∷ ms) os d (inl h, all) = go (clash_found c o ms os d all)
    where
      go : MeetsClash binding c (ms ++ o ∷ os) ⊎ HasClash binding (ms ++ o ∷ os)
          → MeetsClash binding c (m ∷ ms ++ o ∷ os) ⊎ HasClash binding (m ∷ ms ++ o ∷ os)
      go (inl k) = inl (inr (h, k))
      go (inr k) = inr (inr k)
  clash_found c o (m ∷ ms) os d (inr h, all) =
      inr (clash_found m o ms os (again d.1) (right_again c m ms (inr (refl, h.2, h.2)) h.0 h.2 all))
    where
      again : ((binding c).side ≢ (binding o).side) ⊎ ((binding c).side ≡ side.Neither) → Disagree (binding m) (binding o)
      again (inl k) = (sym h.0 ∙ d.0, inl (λ e. k (h.1 ∙ sym h.2 ∙ e)))
      again (inr k) = cc
