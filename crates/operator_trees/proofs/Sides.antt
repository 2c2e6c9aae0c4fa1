-- What may stand below what may stand below.
use Rattle.std.proofs.Common.{◌≡◌, ◌≢◌, ℕ, ◌<◌, ◌⊎◌, inl, inr, List, [], ◌∷◌, ◌++◌, refl, sym, ◌∙◌, ap, arith}
use Rattle.elm_base.specs.declared.tree.Side.{Side}
use Rattle.elm_base.specs.declared.tree.Side.TheVariants as side
use Rattle.operator_trees.specs.declared.binding.Binding.{Binding}
use Rattle.operator_trees.specs.Binds.{GroupTo, MayStandLeft, MayStandRight, Disagree, Each}
use Rattle.operator_trees.specs.Trees.{OperatorTree, Operand, Applied, operators, IsSide, Respects}

-- in the left side
pub left_left : (a b c : Binding) → MayStandLeft a b → MayStandLeft b c → MayStandLeft a c
left_left a b c (inl h) (inl k) = inl (omega (arith, h, k))
left_left a b c (inl h) (inr k) = inl (omega (arith, h, k.0))
left_left a b c (inr h) (inl k) = inl (omega (arith, h.0, k))
left_left a b c (inr h) (inr k) = inr (h.0 ∙ k.0, h.1, k.2)

pub left_right : (a b c : Binding) → MayStandLeft a b → MayStandRight b c → MayStandLeft a c
left_right a b c (inl h) (inl k) = inl (omega (arith, h, k))
left_right a b c (inl h) (inr k) = inl (omega (arith, h, k.0))
left_right a b c (inr h) (inl k) = inl (omega (arith, h.0, k))
left_right a b c (inr h) (inr k) = cc

-- in the right side
pub right_right : (a b c : Binding) → MayStandRight a b → MayStandRight b c → MayStandRight a c
right_right a b c (inl h) (inl k) = inl (omega (arith, h, k))
right_right a b c (inl h) (inr k) = inl (omega (arith, h, k.0))
right_right a b c (inr h) (inl k) = inl (omega (arith, h.0, k))
right_right a b c (inr h) (inr k) = inr (h.0 ∙ k.0, h.1, k.2)

pub right_left : (a b c : Binding) → MayStandRight a b → MayStandLeft b c → MayStandRight a c
right_left a b c (inl h) (inl k) = inl (omega (arith, h, k))
right_left a b c (inl h) (inr k) = inl (omega (arith, h, k.0))
right_left a b c (inr h) (inl k) = inl (omega (arith, h.0, k))
right_left a b c (inr h) (inr k) = cc

-- no two operators may each have the other there
pub not_both : (a b : Binding) → MayStandLeft a b → MayStandRight b a → ⊥
not_both a b (inl h) (inl k) = omega (arith, h, k)
not_both a b (inl h) (inr k) = omega (arith, h, k.0)
not_both a b (inr h) (inl k) = omega (arith, h.0, k)
not_both a b (inr h) (inr k) = cc

-- what may stand at a side doesn't disagree
pub left_agrees : (a b : Binding) → MayStandLeft a b → Disagree b a → ⊥
left_agrees a b (inl h) d = omega (arith, h, d.0)
left_agrees a b (inr h) (e, inl d) = d (h.2 ∙ sym h.1)
left_agrees a b (inr h) (e, inr d) = cc

pub right_agrees : (a b : Binding) → MayStandRight a b → Disagree a b → ⊥
right_agrees a b (inl h) d = omega (arith, h, d.0)
right_agrees a b (inr h) (e, inl d) = d (h.1 ∙ sym h.2)
right_agrees a b (inr h) (e, inr d) = cc

-- lists
module _ {X : Type 0} where
  pub each_both : (P : X → Type 0) (xs ys : List X) → Each P xs → Each P ys → Each P (xs ++ ys)
  each_both P [] ys h k = k
  each_both P (x ∷ xs) ys h k = (h.0, each_both P xs ys h.1 k)

  pub each_map : (P Q : X → Type 0) (xs : List X) → ((x : X) → P x → Q x) → Each P xs → Each Q xs
  each_map P Q [] f h = tt
  each_map P Q (x ∷ xs) f h = (f x h.0, each_map P Q xs f h.1)

-- all operators of a side may stand there
module _ {O E : Type 0} (binding : O → Binding) where
  mutual
    pub all_left : (o : O) (t : OperatorTree O E) → Respects binding t → IsSide binding MayStandLeft o t
        → Each (λ p. MayStandLeft (binding o) (binding p)) (operators t)
    all_left o (Operand e) r s = tt
    all_left o (Applied p a b) r s =
        each_both (λ q. MayStandLeft (binding o) (binding q)) (operators a) (p ∷ operators b)
        (each_map (λ q. MayStandLeft (binding p) (binding q)) (λ q. MayStandLeft (binding o) (binding q)) (operators a)
        (λ q h. left_left (binding o) (binding p) (binding q) s h) (all_left p a r.2 r.0)) (
          s,
          each_map (λ q. MayStandRight (binding p) (binding q)) (λ q. MayStandLeft (binding o) (binding q)) (operators b)
              (λ q h. left_right (binding o) (binding p) (binding q) s h) (all_right p b r.3 r.1),
        )

    pub all_right : (o : O) (t : OperatorTree O E) → Respects binding t → IsSide binding MayStandRight o t
        → Each (λ p. MayStandRight (binding o) (binding p)) (operators t)
    all_right o (Operand e) r s = tt
    all_right o (Applied p a b) r s =
        each_both (λ q. MayStandRight (binding o) (binding q)) (operators a) (p ∷ operators b)
        (each_map (λ q. MayStandLeft (binding p) (binding q)) (λ q. MayStandRight (binding o) (binding q)) (operators a)
        (λ q h. right_left (binding o) (binding p) (binding q) s h) (all_left p a r.2 r.0)) (
          s,
          each_map (λ q. MayStandRight (binding p) (binding q)) (λ q. MayStandRight (binding o) (binding q)) (operators b)
              (λ q h. right_right (binding o) (binding p) (binding q) s h) (all_right p b r.3 r.1),
        )
