-- A chain's tree, from the trees at the sides of its root.
use Rattle.std.proofs.Common.{◌≡◌, ◌≢◌, ℕ, zero, suc, ◌+◌, ◌<◌, ◌≤◌, ◌⊎◌, ◌↔◌, ◌==◌, true, List, [], ◌∷◌, ◌++◌, length, Option, Some, None, inl, inr, refl, sym, ◌∙◌, ap, subst, append_assoc, arith}
use Rattle.std.specs.Prelude.{Result, Ok, Err}
use Rattle.std.proofs.lemmas.Bool.{eqb-true}
use Rattle.std.proofs.lemmas.List.{length-append, length-drop}
use Rattle.elm_base.specs.declared.memory.Halt.{Halt}
use Rattle.elm_base.specs.declared.memory.Halt.TheVariants as halt
use Rattle.elm_base.specs.declared.tree.Operator.{Operator}
use Rattle.elm_base.specs.declared.tree.Expr.{Expr}
use Rattle.operator_trees.specs.declared.binding.Binding.{Binding}
use Rattle.operator_trees.specs.declared.chains.Clash.{Clash}
use Rattle.operator_trees.specs.Binds.{Each, HasClash}
use Rattle.operator_trees.specs.Levels.{Declared}
use Rattle.operator_trees.specs.Roots.{root}
use Rattle.operator_trees.specs.Trees.{OperatorTree, Operand, Applied, IsTreeOf, HasNoTree, IsRoot}
use Rattle.operator_trees.specs.Chains.{binary, binds, IsCut, Stands, Builds, Takes}
use Rattle.operator_trees.proofs.Clashes.{clash_before, clash_behind}
use Rattle.operator_trees.proofs.Shapes.{applied, clash_refuses, cut_alike, one_more}
use Rattle.operator_trees.proofs.RootLaws.{root_of_all, clash_of_all}

pub none_left : {X : Type 0} (xs : List X) → true ≡ (length xs == 0) → xs ≡ []
none_left [] e = refl
none_left (x ∷ xs) e = absurd (let z = eqb-true (length (x ∷ xs)) 0 (sym e) in omega (arith, z))

-- a list in two parts of these lengths
pub in_two : {X : Type 0} (xs : List X) (m n : ℕ) → length xs ≡ m + n → (ys zs : List X) × (xs ≡ ys ++ zs) × (length ys ≡ m) × (length zs ≡ n)
in_two xs zero n e = ([], xs, refl, refl, (let g : length xs ≡ n = omega (arith, e) in g))
in_two [] (suc m) n e = absurd (omega (arith, e))
in_two (x ∷ xs) (suc m) n e = go (in_two xs m n (omega (arith, e)))
  where
    go : (ys zs : List _) × (xs ≡ ys ++ zs) × (length ys ≡ m) × (length zs ≡ n)
        → (ys zs : List _) × ((x ∷ xs) ≡ ys ++ zs) × (length ys ≡ suc m) × (length zs ≡ n)
    go (ys, zs, h, k, l) = (x ∷ ys, zs, ap (λ t. x ∷ t) h, ap suc k, l)

module _ (binding : Operator → Binding) (os before : List Operator) (root : Operator) (after : List Operator) (cut : IsCut binding os before root after) where
  lengths : length os ≡ length before + suc (length after)
  lengths = ap length cut.cut ∙ length-append before (root ∷ after)

  pub shorter_after : length after < length os
  shorter_after = let l = lengths in omega (arith, l)

  pub shorter_before : length before < length os
  shorter_before = let l = lengths in omega (arith, l)

  pub clash_after : HasClash binding after → HasClash binding os
  clash_after h = subst (HasClash binding) (sym cut.cut) (clash_behind binding before (root ∷ after) (inr h))

  pub clash_first : HasClash binding before → HasClash binding os
  clash_first h = subst (HasClash binding) (sym cut.cut) (clash_before binding before (root ∷ after) h)

  -- the operands of a chain in those of its two sides
  pub sides : (es : List Expr) → length es ≡ suc (length os)
      → (xs ys : List Expr) × (es ≡ xs ++ ys) × (length xs ≡ suc (length before)) × (length ys ≡ suc (length after))
  sides es e = let l = lengths in in_two es (suc (length before)) (suc (length after)) (omega (arith, e, l))

-- what is asked of a side: with whatever stands before its operands
abbrev pub Side : Declared → List Expr → List Operator → List Expr → Result Expr (Halt Clash) → Type 0
Side declared old os new result =
    (front es : List Expr) → old ≡ front ++ es → length es ≡ suc (length os) → Builds declared front es os new result

module _ (declared : Declared) (os before : List Operator) (root : Operator) (after : List Operator) (cut : IsCut (binds declared) os before root after) where
  pub right_err : (old new : List Expr) (cause : Halt Clash) → Side declared old after new (Err cause) → Side declared old os new (Err cause)
  right_err old new cause h front es e l known = go (sides (binds declared) os before root after cut es l)
    where
      go : (xs ys : List Expr) × (es ≡ xs ++ ys) × (length xs ≡ suc (length before)) × (length ys ≡ suc (length after)) → HasClash (binds declared) os
      go (xs, ys, k, m, n) =
          clash_after (binds declared) os before root after cut
          (h (front ++ xs) ys (e ∙ ap (λ z. front ++ z) k ∙ sym (append_assoc front xs ys)) n known)

  pub left_err : (old new newer : List Expr) (right : Expr) (cause : Halt Clash) → Side declared old after new (Ok right)
      → Side declared new before newer (Err cause) → Side declared old os newer (Err cause)
  left_err old new newer right cause g h front es e l known = go (sides (binds declared) os before root after cut es l)
    where
      go : (xs ys : List Expr) × (es ≡ xs ++ ys) × (length xs ≡ suc (length before)) × (length ys ≡ suc (length after)) → HasClash (binds declared) os
      go (xs, ys, k, m, n) =
          clash_first (binds declared) os before root after cut
          (h front xs (g (front ++ xs) ys (e ∙ ap (λ z. front ++ z) k ∙ sym (append_assoc front xs ys)) n).0 m known)

  pub both_ok : (old new newer : List Expr) (left right : Expr) → Side declared old after new (Ok right)
      → Side declared new before newer (Ok left) → Side declared old os newer (Ok (binary root left right))
  both_ok old new newer left right g h front es e l = go (sides (binds declared) os before root after cut es l)
    where
      go : (xs ys : List Expr) × (es ≡ xs ++ ys) × (length xs ≡ suc (length before)) × (length ys ≡ suc (length after))
          → Builds declared front es os newer (Ok (binary root left right))
      go (xs, ys, k, m, n) = built (g (front ++ xs) ys (e ∙ ap (λ z. front ++ z) k ∙ sym (append_assoc front xs ys)) n)
        where
          built : (new ≡ front ++ xs) × Stands declared ys after right → Builds declared front es os newer (Ok (binary root left right))
          built (at, (b, tb, eb)) = whole (h front xs at m)
            where
              whole : (newer ≡ front) × Stands declared xs before left → Builds declared front es os newer (Ok (binary root left right))
              whole (done, (a, ta, ea)) = (
                done,
                (
                  Applied root a b,
                  subst (λ z. IsTreeOf (binds declared) z os (Applied root a b)) (sym k)
                      (subst (λ z. IsTreeOf (binds declared) (xs ++ ys) z (Applied root a b)) (sym cut.cut)
                      (applied (binds declared) Expr root before after xs ys a b cut.left cut.right ta tb)),
                  rw (ea, eb),
                ),
              )

-- one operand
pub one_ok : (declared : Declared) (old new : List Expr) (x : Expr) → ((front : List Expr) (y : Expr) → old ≡ front ++ y ∷ [] → (new ≡ front) × (x ≡ y))
    → Side declared old [] new (Ok x)
one_ok declared old new x h front [] e l = absurd (omega (arith, l))
one_ok declared old new x h front (y ∷ []) e l = go (h front y e)
  where
    go : (new ≡ front) × (x ≡ y) → Builds declared front (y ∷ []) [] new (Ok x)
    go (done, same) = (done, (Operand y, record { leaves = refl; between = refl; respects = tt }, same))
one_ok declared old new x h front (y ∷ z ∷ es) e l = absurd (omega (arith, l))

pub one_err : (declared : Declared) (old new : List Expr) (cause : Halt Clash) → ((front : List Expr) (y : Expr) → old ≡ front ++ y ∷ [] → cause ≡ halt.NoMemory)
    → Side declared old [] new (Err cause)
one_err declared old new cause h front [] e l known = absurd (omega (arith, l))
one_err declared old new cause h front (y ∷ []) e l known = absurd (known (h front y e))
one_err declared old new cause h front (y ∷ z ∷ es) e l known = absurd (omega (arith, l))

pub one : (declared : Declared) (old new : List Expr) (os : List Operator) (r : Result Expr (Halt Clash)) → os ≡ []
    → ((front : List Expr) (y : Expr) → old ≡ front ++ y ∷ [] → Takes front y new r) → Side declared old os new r
one declared old new os (Ok x) e h = subst (λ z. Side declared old z new (Ok x)) (sym e) (one_ok declared old new x h)
one declared old new os (Err cause) e h = subst (λ z. Side declared old z new (Err cause)) (sym e) (one_err declared old new cause h)

-- a list cut where so many of its end are left
pub cut_there : (before : List Operator) (root : Operator) (after os : List Operator) (left : ℕ) → os ≡ before ++ root ∷ after → length (root ∷ after) ≡ left
    → (ys zs : List Operator) → os ≡ ys ++ zs → length zs ≡ left → (ys ≡ before) × (zs ≡ root ∷ after)
cut_there before root after os left e l ys zs f k =
    let a = ap length e ∙ length-append before (root ∷ after) in
    let b = ap length f ∙ length-append ys zs in
    cut_alike ys before zs (root ∷ after) (sym f ∙ e) (omega (arith, a, b, l, k))

-- what stands from the root on
module _ (declared : Declared) where
  pub no_root : (os : List Operator) → os ≢ [] → root (binds declared) os ≡ None → HasClash (binds declared) os
  no_root [] some none = absurd (some refl)
  no_root (o ∷ os) some none = clash_of_all (binds declared) o os (length (o ∷ os)) none

  is_root : (os : List Operator) (left : ℕ) → root (binds declared) os ≡ Some left → IsRoot (binds declared) os left
  is_root [] left found = absurd (cc)
  is_root (o ∷ os) left found = root_of_all (binds declared) o os left found

  pub root_within : (os : List Operator) (left : ℕ) → root (binds declared) os ≡ Some left → left ≤ length os
  root_within os left found = go (is_root os left found)
    where
      go : IsRoot (binds declared) os left → left ≤ length os
      go (before, root, after, e, l, a, b) = let k = ap length e ∙ length-append before (root ∷ after) in omega (arith, k, l)

  pub root_there : (os : List Operator) (left : ℕ) → root (binds declared) os ≡ Some left → left ≡ 0 → ⊥
  root_there os left found h = go (is_root os left found)
    where
      go : IsRoot (binds declared) os left → ⊥
      go (before, root, after, e, l, a, b) = omega (arith, l, h)

  pub cut_of_root : (os : List Operator) (left : ℕ) → root (binds declared) os ≡ Some left
      → (ys zs after : List Operator) (p : Operator) → os ≡ ys ++ zs → length zs ≡ left → zs ≡ p ∷ after
      → IsCut (binds declared) os ys p after
  cut_of_root os left found ys zs after p e l f = go (is_root os left found)
    where
      go : IsRoot (binds declared) os left → IsCut (binds declared) os ys p after
      go (before, r, behind, k, m, a, b) =
          let both = cut_there before r behind os left k m ys zs e l in
          let same : p ≡ r = cc in
          let rest : after ≡ behind = cc in
          record {
            cut = e ∙ ap (λ z. ys ++ z) f;
            left = rw (both.0, same) a;
            right = rw (rest, same) b;
          }

-- each chain has a tree, or its operators clash
module _ (declared : Declared) where
  abbrev HasTree : List Expr → List Operator → Type 0
  HasTree es os = (tree : OperatorTree Operator Expr) × IsTreeOf (binds declared) es os tree

  over : (es : List Expr) (os before : List Operator) (p : Operator) (after : List Operator) → IsCut (binds declared) os before p after
      → (xs ys : List Expr) → es ≡ xs ++ ys → HasTree xs before ⊎ HasClash (binds declared) before → HasTree ys after ⊎ HasClash (binds declared) after
      → HasTree es os ⊎ HasClash (binds declared) os
  over es os before p after cut xs ys e (inr h) other = inr (clash_first (binds declared) os before p after cut h)
  over es os before p after cut xs ys e (inl h) (inr k) = inr (clash_after (binds declared) os before p after cut k)
  over es os before p after cut xs ys e (inl (a, ta)) (inl (b, tb)) =
      inl (
        Applied p a b,
        subst (λ z. IsTreeOf (binds declared) z os (Applied p a b)) (sym e)
            (subst (λ z. IsTreeOf (binds declared) (xs ++ ys) z (Applied p a b)) (sym cut.cut)
            (applied (binds declared) Expr p before after xs ys a b cut.left cut.right ta tb)),
      )

  decide : (n : ℕ) (es : List Expr) (os : List Operator) → length os ≤ n → length es ≡ suc (length os)
      → HasTree es os ⊎ HasClash (binds declared) os
  decide n [] [] less e = absurd (omega (arith, e))
  decide n (x ∷ []) [] less e = inl (Operand x, record { leaves = refl; between = refl; respects = tt })
  decide n (x ∷ y ∷ es) [] less e = absurd (omega (arith, e))
  decide zero es (o ∷ os) less e = absurd (omega (arith, less))
  decide (suc n) es (o ∷ os) less e = found (root (binds declared) (o ∷ os)) refl (λ xs before small l. decide n xs before small l)
    where
      found : (r : Option ℕ) → root (binds declared) (o ∷ os) ≡ r
          → ((xs : List Expr) (before : List Operator) → length before ≤ n → length xs ≡ suc (length before) → HasTree xs before ⊎ HasClash (binds declared) before)
          → HasTree es (o ∷ os) ⊎ HasClash (binds declared) (o ∷ os)
      found None h again = inr (clash_of_all (binds declared) o os (length (o ∷ os)) h)
      found (Some left) h again = go (is_root declared (o ∷ os) left h)
        where
          go : IsRoot (binds declared) (o ∷ os) left → HasTree es (o ∷ os) ⊎ HasClash (binds declared) (o ∷ os)
          go (before, p, after, f, l, a, b) =
              let cut : IsCut (binds declared) (o ∷ os) before p after = record { cut = f; left = a; right = b } in
              parts (shorter_before (binds declared) (o ∷ os) before p after cut) (shorter_after (binds declared) (o ∷ os) before p after cut) cut
              (sides (binds declared) (o ∷ os) before p after cut es e)
            where
              parts : length before < length (o ∷ os) → length after < length (o ∷ os) → IsCut (binds declared) (o ∷ os) before p after
                  → (xs ys : List Expr) × (es ≡ xs ++ ys) × (length xs ≡ suc (length before)) × (length ys ≡ suc (length after))
                  → HasTree es (o ∷ os) ⊎ HasClash (binds declared) (o ∷ os)
              parts i j cut (xs, ys, k, m, q) =
                  over es (o ∷ os) before p after cut xs ys k (again xs before (omega (arith, i, less)) m) (again ys after (omega (arith, j, less)) q)

  pub tree_or_clash : (es : List Expr) (os : List Operator) → length es ≡ suc (length os) → HasTree es os ⊎ HasClash (binds declared) os
  tree_or_clash es os e = decide (length os) es os (omega arith) e

  -- of another number of operands there is no tree
  pub no_tree : (es : List Expr) (os : List Operator) → (length es ≡ suc (length os) → ⊥) → HasNoTree (binds declared) es os
  no_tree es os h t k = h (ap length (sym k.leaves) ∙ one_more t ∙ ap (λ z. suc (length z)) k.between)

  pub clash_or_none : (es : List Expr) (os : List Operator) → length es ≡ suc (length os) → HasNoTree (binds declared) es os ↔ HasClash (binds declared) os
  clash_or_none es os e = (to, λ h. clash_refuses (binds declared) Expr es os h)
    where
      to : HasNoTree (binds declared) es os → HasClash (binds declared) os
      to h = go (tree_or_clash es os e)
        where
          go : HasTree es os ⊎ HasClash (binds declared) os → HasClash (binds declared) os
          go (inl (t, k)) = absurd (h t k)
          go (inr k) = k
