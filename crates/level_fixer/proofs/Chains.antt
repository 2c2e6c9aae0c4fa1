-- A chain's tree is the one that grows, and a chain has none exactly where the tests say so.
use Rattle.std.proofs.Common.{◌≡◌, suc, ◌⊎◌, inl, inr, nat_eq, true, false, not, List, [], ◌∷◌, length, map, sym, ◌∙◌, ap, subst, arith}
use Rattle.std.proofs.lemmas.Bool.{both_ways, cases_eq, eq-eqb, ne_eqb, or_cases, or_left, or_right, not_from_false, not-true, false_from_ne_true}
use Rattle.elm_base.specs.declared.token.At.{At}
use Rattle.elm_base.specs.declared.tree.Operator.{Operator}
use Rattle.elm_base.specs.declared.tree.Expr.{Expr}
use Rattle.operator_trees.specs.Binds.{HasClash}
use Rattle.operator_trees.specs.Chains.{binds, expr_of, Stands}
use Rattle.operator_trees.specs.Levels.{Declared}
use Rattle.operator_trees.specs.Trees.{OperatorTree, Operand, IsTreeOf, HasNoTree}
use Rattle.operator_trees.proofs.Building.{no_tree, clash_or_none, tree_or_clash}
use Rattle.operator_trees.proofs.Shapes.{one_more}
use Rattle.level_fixer.specs.Clashes.{has_clash, has_no_tree}
use Rattle.level_fixer.specs.FixedTrees.{of_chain}
use Rattle.level_fixer.specs.GrownTrees.{grown}
use Rattle.level_fixer.proofs.ClashLaws.{clash_exactly}
use Rattle.level_fixer.proofs.GrownLaws.{first, others, leaves_are, grown_is}

module _ (declared : Declared) where
  -- of a tree's operands and operators
  pub of_tree : (at : At) (es : List Expr) (os : List Operator) (t : OperatorTree Operator Expr) → IsTreeOf (binds declared) es os t
      → of_chain declared at es os ≡ expr_of t
  of_tree at [] os t k = absurd (let long = one_more t in let none = ap length k.leaves in omega (arith, long, none))
  of_tree at (x ∷ xs) os t k =
      let parts : first (binds declared) t ∷ others (binds declared) t ≡ x ∷ xs = sym (leaves_are (binds declared) t) ∙ k.leaves in
      let head : first (binds declared) t ≡ x = cc in
      let tail : others (binds declared) t ≡ xs = cc in
      ap expr_of
      (subst (λ z. grown (binds declared) (Operand z) os xs ≡ t) head
      (subst (λ z. grown (binds declared) (Operand (first (binds declared) t)) os z ≡ t) tail
      (subst (λ z. grown (binds declared) (Operand (first (binds declared) t)) z (others (binds declared) t) ≡ t) k.between
      (grown_is (binds declared) t k.respects))))

  fits : (es : List Expr) (os : List Operator) (t : OperatorTree Operator Expr) → IsTreeOf (binds declared) es os t → length es ≡ suc (length os)
  fits es os t k = ap length (sym k.leaves) ∙ one_more t ∙ ap (λ z. suc (length z)) k.between

  -- none, as the tests say it
  pub none_told : (es : List Expr) (os : List Operator) → HasNoTree (binds declared) es os → has_no_tree declared (length es) os ≡ true
  none_told es os h = go (cases_eq (length es) (suc (length os)))
    where
      go : (length es ≡ suc (length os)) ⊎ (length es ≡ suc (length os) → ⊥) → has_no_tree declared (length es) os ≡ true
      go (inl e) =
          or_right (not (nat_eq (length es) (suc (length os)))) (has_clash (map (binds declared) os))
          ((clash_exactly (binds declared) os).1 ((clash_or_none declared es os e).0 h))
      go (inr e) =
          or_left (not (nat_eq (length es) (suc (length os)))) (has_clash (map (binds declared) os))
          (not_from_false (nat_eq (length es) (suc (length os))) (ne_eqb (length es) (suc (length os)) e))

  pub tells_none : (es : List Expr) (os : List Operator) → has_no_tree declared (length es) os ≡ true → HasNoTree (binds declared) es os
  tells_none es os h = go (or_cases (not (nat_eq (length es) (suc (length os)))) (has_clash (map (binds declared) os)) h) (cases_eq (length es) (suc (length os)))
    where
      go : (not (nat_eq (length es) (suc (length os))) ≡ true) ⊎ (has_clash (map (binds declared) os) ≡ true)
          → (length es ≡ suc (length os)) ⊎ (length es ≡ suc (length os) → ⊥) → HasNoTree (binds declared) es os
      go k (inr e) = no_tree declared es os e
      go (inl k) (inl e) =
          absurd (both_ways (nat_eq (length es) (suc (length os))) (not-true (nat_eq (length es) (suc (length os))) k)
          (eq-eqb (length es) (suc (length os)) e))
      go (inr k) (inl e) = (clash_or_none declared es os e).1 ((clash_exactly (binds declared) os).0 k)

  pub one_told : (es : List Expr) (os : List Operator) (t : OperatorTree Operator Expr) → IsTreeOf (binds declared) es os t
      → has_no_tree declared (length es) os ≡ false
  one_told es os t k = false_from_ne_true (has_no_tree declared (length es) os) (λ h. tells_none es os h t k)

  -- what a chain of fixed operands stands for
  pub built : (at : At) (es : List Expr) (os : List Operator) (x : Expr) → Stands declared es os x
      → (has_no_tree declared (length es) os ≡ false) × (x ≡ of_chain declared at es os)
  built at es os x (t, k, e) = (one_told es os t k, e ∙ sym (of_tree at es os t k))

  -- and a chain that has one stands for it
  pub has_one : (at : At) (es : List Expr) (os : List Operator) → has_no_tree declared (length es) os ≡ false
      → Stands declared es os (of_chain declared at es os)
  has_one at es os h = go (cases_eq (length es) (suc (length os)))
    where
      go : (length es ≡ suc (length os)) ⊎ (length es ≡ suc (length os) → ⊥) → Stands declared es os (of_chain declared at es os)
      go (inr e) = absurd (both_ways (has_no_tree declared (length es) os) h (none_told es os (no_tree declared es os e)))
      go (inl e) = decided (tree_or_clash declared es os e)
        where
          decided : ((t : OperatorTree Operator Expr) × IsTreeOf (binds declared) es os t) ⊎ HasClash (binds declared) os
              → Stands declared es os (of_chain declared at es os)
          decided (inl (t, k)) = (t, k, of_tree at es os t k)
          decided (inr k) =
              absurd (both_ways (has_no_tree declared (length es) os) h
              (or_right (not (nat_eq (length es) (suc (length os)))) (has_clash (map (binds declared) os)) ((clash_exactly (binds declared) os).1 k)))
