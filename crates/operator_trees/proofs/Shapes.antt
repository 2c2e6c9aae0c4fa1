-- Trees of chains: there is at most one, its root is the chain's, and its sides are the trees of what stands beside the root.
use Rattle.std.proofs.Common.{◌≡◌, ◌≢◌, ℕ, suc, ◌+◌, ◌<◌, ◌⊎◌, inl, inr, List, [], ◌∷◌, ◌++◌, length, refl, sym, ◌∙◌, ap, subst, arith}
use Rattle.std.proofs.lemmas.List.{length-append}
use Rattle.operator_trees.specs.declared.binding.Binding.{Binding}
use Rattle.operator_trees.specs.Binds.{MayStandLeft, MayStandRight, Each, HasClash}
use Rattle.operator_trees.specs.Trees.{OperatorTree, Operand, Applied, operands, operators, IsSide, Respects, IsTreeOf, HasNoTree, IsRoot}
use Rattle.operator_trees.proofs.Sides.{not_both, all_left, all_right}
use Rattle.operator_trees.proofs.Clashes.{clash_before, clash_behind, tree_has_none}

-- a tree has one operand more than operators
pub one_more : {O E : Type 0} (t : OperatorTree O E) → length (operands t) ≡ suc (length (operators t))
one_more (Operand e) = refl
one_more (Applied o a b) =
    let one = one_more a in
    let other = one_more b in
    let es = length-append (operands a) (operands b) in
    let os = length-append (operators a) (o ∷ operators b) in
    omega (arith, one, other, es, os)

-- of one list, cut in two at equal lengths
pub cut_alike : {X : Type 0} (xs ys us vs : List X) → xs ++ us ≡ ys ++ vs → length xs ≡ length ys → (xs ≡ ys) × (us ≡ vs)
cut_alike [] [] us vs e l = (refl, e)
cut_alike [] (y ∷ ys) us vs e l = absurd (omega (arith, l))
cut_alike (x ∷ xs) [] us vs e l = absurd (omega (arith, l))
cut_alike (x ∷ xs) (y ∷ ys) us vs e l = go (cut_alike xs ys us vs (cc) (omega (arith, l)))
  where
    go : (xs ≡ ys) × (us ≡ vs) → ((x ∷ xs) ≡ y ∷ ys) × (us ≡ vs)
    go h = (cc, h.1)

module _ {O : Type 0} (binding : O → Binding) where
  abbrev Left : O → O → Type 0
  Left o p = MayStandLeft (binding o) (binding p)

  abbrev Right : O → O → Type 0
  Right o p = MayStandRight (binding o) (binding p)

  each_at : (P : O → Type 0) (xs : List O) (y : O) (ys : List O) → Each P (xs ++ y ∷ ys) → P y
  each_at P [] y ys h = h.0
  each_at P (x ∷ xs) y ys h = each_at P xs y ys h.1

  -- there is at most one root
  pub one_root : (xs ys us vs : List O) (o p : O) → xs ++ o ∷ us ≡ ys ++ p ∷ vs
      → Each (Left o) xs → Each (Right o) us → Each (Left p) ys → Each (Right p) vs → length xs ≡ length ys
  one_root [] [] us vs o p e a b c d = refl
  one_root [] (y ∷ ys) us vs o p e a b c d =
      absurd (not_both (binding p) (binding o) (subst (λ z. Left p z) (sym first) c.0)
      (each_at (Right o) ys p vs (subst (Each (Right o)) rest b)))
    where
      first : o ≡ y
      first = cc

      rest : us ≡ ys ++ p ∷ vs
      rest = cc
  one_root (x ∷ xs) [] us vs o p e a b c d =
      absurd (not_both (binding o) (binding p) (subst (λ z. Left o z) first a.0)
      (each_at (Right p) xs o us (subst (Each (Right p)) (sym rest) d)))
    where
      first : x ≡ p
      first = cc

      rest : xs ++ o ∷ us ≡ vs
      rest = cc
  one_root (x ∷ xs) (y ∷ ys) us vs o p e a b c d = ap suc (one_root xs ys us vs o p (cc) a.1 b c.1 d)

  module _ (E : Type 0) where
    abbrev Tree : Type 0
    Tree = OperatorTree O E

    -- two trees of one chain have one root, and sides over the same parts of the chain
    pub one_tree : (s t : Tree) → operands s ≡ operands t → operators s ≡ operators t → Respects binding s → Respects binding t → s ≡ t
    one_tree (Operand e) (Operand f) es os r q = cc
    one_tree (Operand e) (Applied p c d) es os r q = absurd (longer (operators c) os)
      where
        longer : (cs : List O) → [] ≡ cs ++ p ∷ operators d → ⊥
        longer [] h = cc
        longer (x ∷ cs) h = cc
    one_tree (Applied o a b) (Operand f) es os r q = absurd (longer (operators a) os)
      where
        longer : (cs : List O) → cs ++ o ∷ operators b ≡ [] → ⊥
        longer [] h = cc
        longer (x ∷ cs) h = cc
    one_tree (Applied o a b) (Applied p c d) es os r q =
        let places = one_root (operators a) (operators c) (operators b) (operators d) o p os
        (all_left binding o a r.2 r.0) (all_right binding o b r.3 r.1)
        (all_left binding p c q.2 q.0) (all_right binding p d q.3 q.1) in
        let cut = cut_alike (operators a) (operators c) (o ∷ operators b) (p ∷ operators d) os places in
        let leaves : length (operands a) ≡ length (operands c) = one_more a ∙ ap suc places ∙ sym (one_more c) in
        let both = cut_alike (operands a) (operands c) (operands b) (operands d) es leaves in
        let same : o ≡ p = cc in
        let behind : operators b ≡ operators d = cc in
        let left = one_tree a c both.0 cut.0 r.2 q.2 in
        let right = one_tree b d both.1 behind r.3 q.3 in
        rw (same, left, right)

    pub unique : (es : List E) (os : List O) (s t : Tree) → IsTreeOf binding es os s → IsTreeOf binding es os t → s ≡ t
    unique es os s t h k =
        one_tree s t (h.leaves ∙ sym k.leaves) (h.between ∙ sym k.between) h.respects k.respects

    -- the sides of a root, and the root over them
    side_left : (o : O) (t : Tree) (os : List O) → operators t ≡ os → Each (Left o) os → IsSide binding MayStandLeft o t
    side_left o (Operand e) os e' all = tt
    side_left o (Applied p a b) os e all = each_at (Left o) (operators a) p (operators b) (subst (Each (Left o)) (sym e) all)

    side_right : (o : O) (t : Tree) (os : List O) → operators t ≡ os → Each (Right o) os → IsSide binding MayStandRight o t
    side_right o (Operand e) os e' all = tt
    side_right o (Applied p a b) os e all = each_at (Right o) (operators a) p (operators b) (subst (Each (Right o)) (sym e) all)

    pub applied : (o : O) (before after : List O) (es fs : List E) (a b : Tree)
        → Each (Left o) before → Each (Right o) after
        → IsTreeOf binding es before a → IsTreeOf binding fs after b
        → IsTreeOf binding (es ++ fs) (before ++ o ∷ after) (Applied o a b)
    applied o before after es fs a b left right h k = record {
      leaves = rw (h.leaves, k.leaves);
      between = rw (h.between, k.between);
      respects = (side_left o a before h.between left, side_right o b after k.between right, h.respects, k.respects);
    }

    -- a chain whose operators clash has no tree
    pub clash_refuses : (es : List E) (os : List O) → HasClash binding os → HasNoTree binding es os
    clash_refuses es os h t k = tree_has_none binding t k.respects (subst (HasClash binding) (sym k.between) h)
