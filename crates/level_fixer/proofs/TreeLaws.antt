-- What chains, and the forms whose parts are pairs, are fixed to, and whether they clash.
use Rattle.std.proofs.Common.{◌≡◌, Bool, ◌||◌, List, [], ◌∷◌, length, map, Result, Ok, Err, MatchResult, refl, sym, ◌∙◌, ap, subst}
use Rattle.std.proofs.lemmas.Bool.{or_from, or_left, or_right}
use Rattle.elm_base.specs.declared.memory.Halt.{Halt}
use Rattle.elm_base.specs.declared.token.At.{At}
use Rattle.elm_base.specs.declared.tree.Operator.{Operator}
use Rattle.elm_base.specs.declared.tree.Pattern.{Pattern}
use Rattle.elm_base.specs.declared.tree.Set.{Set, roll-Set}
use Rattle.elm_base.specs.declared.tree.Expr.{Expr}
use Rattle.elm_base.specs.declared.tree.Expr.TheVariants as e
use Rattle.elm_base.specs.declared.tree.Declaration.{Declaration, roll-Declaration}
use Rattle.elm_base.specs.declared.tree.Declaration.TheOpen as tree
use Rattle.elm_base.specs.declared.tree.Declaration.TheFolds.{fold-roll-Expr}
use Rattle.operator_trees.specs.declared.chains.Clash.{Clash}
use Rattle.operator_trees.specs.Levels.{Declared}
use Rattle.level_fixer.specs.Clashes.{any, declaration_step, expr_step, expr_clashes, has_no_tree}
use Rattle.level_fixer.specs.FixedTrees.{fixed_expr, fixed_layer, of_chain}
use Rattle.level_fixer.specs.Fixing.{Builds, BuildsAt, Fixes}

map_twice : {A B C : Type 0} (f : B → C) (g : A → B) (xs : List A) → map f (map g xs) ≡ map (λ x. f (g x)) xs
map_twice f g [] = refl
map_twice f g (x ∷ xs) = ap (λ ys. f (g x) ∷ ys) (map_twice f g xs)

module _ (d : Declared) where
  -- ---- chains

  chain_clash : (at : At) (es : List Expr) (os : List Operator)
      → expr_clashes d (e.Chain at es os) ≡ (any (map (expr_clashes d) es) || has_no_tree d (length (map (expr_clashes d) es)) os)
  chain_clash at es os =
      ap (expr_clashes d) (sym (e.rolls-Chain at es os))
      ∙ fold-roll-Expr Bool Bool Bool declaration_step (expr_step d) (λ set. set.value) (tree.Chain at es os)

  chain_fixed : (at : At) (es : List Expr) (os : List Operator) → fixed_expr d (e.Chain at es os) ≡ of_chain d at (map (fixed_expr d) es) os
  chain_fixed at es os =
      ap (fixed_expr d) (sym (e.rolls-Chain at es os))
      ∙ fold-roll-Expr Declaration Expr Set roll-Declaration (fixed_layer d) roll-Set (tree.Chain at es os)

  pub chain_at : (at : At) (es : List Expr) (os : List Operator) (r : Result Expr (Halt Clash)) → Builds d es os r → BuildsAt d at es os r
  chain_at at es os (Ok x) h = (chain_clash at es os ∙ h.0, h.1 at ∙ sym (chain_fixed at es os))
  chain_at at es os (Err cause) h = λ known. chain_clash at es os ∙ h known

  -- ---- branches with conditions

  guards_clash : (at : At) (bs : List (Expr × Expr))
      → expr_clashes d (e.Guards at bs) ≡ any (map (λ (branch : Expr × Expr). expr_clashes d branch.0 || expr_clashes d branch.1) bs)
  guards_clash at bs =
      ap (expr_clashes d) (sym (e.rolls-Guards at bs))
      ∙ fold-roll-Expr Bool Bool Bool declaration_step (expr_step d) (λ set. set.value) (tree.Guards at bs)
      ∙ ap any (map_twice (λ (branch : Bool × Bool). branch.0 || branch.1) (λ (branch : Expr × Expr). (expr_clashes d branch.0, expr_clashes d branch.1)) bs)

  guards_fixed : (at : At) (bs : List (Expr × Expr))
      → fixed_expr d (e.Guards at bs) ≡ e.Guards at (map (λ (branch : Expr × Expr). (fixed_expr d branch.0, fixed_expr d branch.1)) bs)
  guards_fixed at bs =
      ap (fixed_expr d) (sym (e.rolls-Guards at bs))
      ∙ fold-roll-Expr Declaration Expr Set roll-Declaration (fixed_layer d) roll-Set (tree.Guards at bs)
      ∙ e.rolls-Guards at (map (λ (branch : Expr × Expr). (fixed_expr d branch.0, fixed_expr d branch.1)) bs)

  pub guards_at : (at : At) (bs cs : List (Expr × Expr)) (r : Result (Unit {0}) (Halt Clash))
      → Fixes (λ xs. any (map (λ (branch : Expr × Expr). expr_clashes d branch.0 || expr_clashes d branch.1) xs))
      (map (λ (branch : Expr × Expr). (fixed_expr d branch.0, fixed_expr d branch.1))) bs cs r
      → Fixes (expr_clashes d) (fixed_expr d) (e.Guards at bs) (e.Guards at cs) r
  guards_at at bs cs (Ok u) h = (guards_clash at bs ∙ h.0, ap (e.Guards at) h.1 ∙ sym (guards_fixed at bs))
  guards_at at bs cs (Err cause) h = λ known. guards_clash at bs ∙ h known

  -- ---- branches with patterns

  case_clash : (at : At) (x : Expr) (bs : List (Pattern × Expr))
      → expr_clashes d (e.Case at x bs) ≡ (expr_clashes d x || any (map (λ (branch : Pattern × Expr). expr_clashes d branch.1) bs))
  case_clash at x bs =
      ap (expr_clashes d) (sym (e.rolls-Case at x bs))
      ∙ fold-roll-Expr Bool Bool Bool declaration_step (expr_step d) (λ set. set.value) (tree.Case at x bs)
      ∙ ap (λ z. expr_clashes d x || any z) (map_twice (λ (branch : Pattern × Bool). branch.1) (λ (branch : Pattern × Expr). (branch.0, expr_clashes d branch.1)) bs)

  case_fixed : (at : At) (x : Expr) (bs : List (Pattern × Expr))
      → fixed_expr d (e.Case at x bs) ≡ e.Case at (fixed_expr d x) (map (λ (branch : Pattern × Expr). (branch.0, fixed_expr d branch.1)) bs)
  case_fixed at x bs =
      ap (fixed_expr d) (sym (e.rolls-Case at x bs))
      ∙ fold-roll-Expr Declaration Expr Set roll-Declaration (fixed_layer d) roll-Set (tree.Case at x bs)
      ∙ e.rolls-Case at (fixed_expr d x) (map (λ (branch : Pattern × Expr). (branch.0, fixed_expr d branch.1)) bs)

  pub case_at : (at : At) (x y : Expr) (bs cs : List (Pattern × Expr)) (first second r : Result (Unit {0}) (Halt Clash))
      → Fixes (expr_clashes d) (fixed_expr d) x y first
      → Fixes (λ xs. any (map (λ (branch : Pattern × Expr). expr_clashes d branch.1) xs)) (map (λ (branch : Pattern × Expr). (branch.0, fixed_expr d branch.1))) bs cs second
      → MatchResult first (λ _. r ≡ second) (λ cause. r ≡ Err cause)
      → Fixes (expr_clashes d) (fixed_expr d) (e.Case at x bs) (e.Case at y cs) r
  case_at at x y bs cs (Err cause) second r h k is =
      subst (Fixes (expr_clashes d) (fixed_expr d) (e.Case at x bs) (e.Case at y cs)) (sym is)
      (λ known. case_clash at x bs ∙ or_left (expr_clashes d x) (any (map (λ (branch : Pattern × Expr). expr_clashes d branch.1) bs)) (h known))
  case_at at x y bs cs (Ok u) (Err cause) r h k is =
      subst (Fixes (expr_clashes d) (fixed_expr d) (e.Case at x bs) (e.Case at y cs)) (sym is)
      (λ known. case_clash at x bs ∙ or_right (expr_clashes d x) (any (map (λ (branch : Pattern × Expr). expr_clashes d branch.1) bs)) (k known))
  case_at at x y bs cs (Ok u) (Ok v) r h k is =
      subst (Fixes (expr_clashes d) (fixed_expr d) (e.Case at x bs) (e.Case at y cs)) (sym is) (
        case_clash at x bs ∙ or_from (expr_clashes d x) (any (map (λ (branch : Pattern × Expr). expr_clashes d branch.1) bs)) h.0 k.0,
        ap (λ z. e.Case at z cs) h.1 ∙ ap (e.Case at (fixed_expr d x)) k.1 ∙ sym (case_fixed at x bs),
      )
