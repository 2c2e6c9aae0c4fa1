-- A tree that respects levels and sides is what grows from its operators and operands.
use Rattle.std.proofs.Common.{◌≡◌, List, [], ◌∷◌, ◌++◌, length, refl, ◌∙◌, ap, arith}
use Rattle.std.proofs.lemmas.List.{length-append}
use Rattle.operator_trees.specs.declared.binding.Binding.{Binding}
use Rattle.operator_trees.specs.declared.binding.Below.{Below}
use Rattle.operator_trees.specs.declared.binding.Below.TheVariants as below
use Rattle.operator_trees.specs.Binds.{MayStandLeft, MayStandRight, Each}
use Rattle.operator_trees.specs.Roots.{which_below}
use Rattle.operator_trees.specs.Trees.{OperatorTree, Operand, Applied, operands, operators, IsSide, Respects}
use Rattle.operator_trees.proofs.RootLaws.{Stand, stands}
use Rattle.operator_trees.proofs.Sides.{not_both, right_agrees, all_right}
use Rattle.level_fixer.specs.GrownTrees.{where_below, put_behind, grown}

-- where the second may stand in the right side of the first, and where the first may stand in the left side of the second
is_inside : {A : Type 0} (a b : Binding) (x y : A) → MayStandRight a b → where_below (which_below a b) x y ≡ x
is_inside {A} a b x y may = go (which_below a b) (stands a b)
  where
    go : (w : Below) → Stand a b w → where_below w x y ≡ x
    go below.Second s = refl
    go below.First s = absurd (not_both b a s may)
    go below.Neither s = absurd (right_agrees a b may s)

is_above : {A : Type 0} (a b : Binding) (x y : A) → MayStandLeft b a → where_below (which_below a b) x y ≡ y
is_above {A} a b x y may = go (which_below a b) (stands a b)
  where
    go : (w : Below) → Stand a b w → where_below w x y ≡ y
    go below.Second s = absurd (not_both b a may s)
    go below.First s = refl
    go below.Neither s = refl

module _ {O E : Type 0} (binding : O → Binding) where
  -- the first operand, and those behind it
  abbrev pub first : OperatorTree O E → E
  first (Operand e) = e
  first (Applied o l r) = first l

  abbrev pub others : OperatorTree O E → List E
  others (Operand e) = []
  others (Applied o l r) = others l ++ first r ∷ others r

  pub leaves_are : (t : OperatorTree O E) → operands t ≡ first t ∷ others t
  leaves_are (Operand e) = refl
  leaves_are (Applied o l r) = rw (leaves_are l, leaves_are r) refl

  others_fit : (t : OperatorTree O E) → length (others t) ≡ length (operators t)
  others_fit (Operand e) = refl
  others_fit (Applied o l r) =
      let a = others_fit l in
      let b = others_fit r in
      let es = length-append (others l) (first r ∷ others r) in
      let os = length-append (operators l) (o ∷ operators r) in
      omega (arith, a, b, es, os)

  grown_on : (t : OperatorTree O E) (os ps : List O) (es fs : List E) → length es ≡ length os
      → grown binding t (os ++ ps) (es ++ fs) ≡ grown binding (grown binding t os es) ps fs
  grown_on t [] ps [] fs l = refl
  grown_on t [] ps (e ∷ es) fs l = absurd (omega (arith, l))
  grown_on t (o ∷ os) ps [] fs l = absurd (omega (arith, l))
  grown_on t (o ∷ os) ps (e ∷ es) fs l = grown_on (put_behind binding t o e) os ps es fs (omega (arith, l))

  -- what may stand in the right side grows there
  grown_inside : (o : O) (l t : OperatorTree O E) (os : List O) (es : List E) → Each (λ p. MayStandRight (binding o) (binding p)) os
      → grown binding (Applied o l t) os es ≡ Applied o l (grown binding t os es)
  grown_inside o l t [] es all = refl
  grown_inside o l t (p ∷ os) [] all = refl
  grown_inside o l t (p ∷ os) (e ∷ es) all =
      ap (λ z. grown binding z os es)
      (is_inside (binding o) (binding p) (Applied o l (put_behind binding t p e)) (Applied p (Applied o l t) (Operand e)) all.0)
      ∙ grown_inside o l (put_behind binding t p e) os es all.1

  -- an operator whose left side the tree may be stands above it
  put_above : (o : O) (l : OperatorTree O E) (e : E) → IsSide binding MayStandLeft o l → put_behind binding l o e ≡ Applied o l (Operand e)
  put_above o (Operand a) e s = refl
  put_above o (Applied p a b) e s =
      is_above (binding p) (binding o) (Applied p a (put_behind binding b o e)) (Applied o (Applied p a b) (Operand e)) s

  pub grown_is : (t : OperatorTree O E) → Respects binding t → grown binding (Operand (first t)) (operators t) (others t) ≡ t
  grown_is (Operand e) r = refl
  grown_is (Applied o a b) r =
      grown_on (Operand (first a)) (operators a) (o ∷ operators b) (others a) (first b ∷ others b) (others_fit a)
      ∙ ap (λ z. grown binding (put_behind binding z o (first b)) (operators b) (others b)) (grown_is a r.2)
      ∙ ap (λ z. grown binding z (operators b) (others b)) (put_above o a (first b) r.0)
      ∙ grown_inside o a (Operand (first b)) (operators b) (others b) (all_right binding o b r.3 r.1)
      ∙ ap (λ z. Applied o a z) (grown_is b r.3)
