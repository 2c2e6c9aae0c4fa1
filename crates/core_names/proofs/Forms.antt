-- The binders of fields and branches.
use Rattle.std.proofs.Common.{◌≡◌, ◌∙◌, ◌≤◌, ℕ, zero, suc, arith, List, [], ◌∷◌, take, length, refl, sym, ap}
use Rattle.elm_base.specs.declared.token.At.{At}
use Rattle.elm_base.specs.declared.tree.Set.{Set}
use Rattle.elm_base.specs.declared.tree.Pattern.{Pattern}
use Rattle.elm_base.specs.declared.tree.Expr.{Expr, out-Expr, out-roll-Expr}
use Rattle.elm_base.specs.declared.tree.Declaration.TheOpen as tree
use Rattle.elm_base.specs.declared.tree.Declaration.TheFolds.{fold_out-Set}
use Rattle.elm_base.specs.declared.tree.Expr.TheVariants as e
use Rattle.plain_form.specs.Naming.{Naming}
use Rattle.plain_form.specs.Numbering.{Binders as Places, both, binders_of, binders_step, declaration_binders_step}
use Rattle.core_names.specs.Binding as spec

pub set_is : (n : Naming) (s : Set) → spec.set_binders n s ≡ binders_of n s.value
set_is n s = fold_out-Set Places Places Places declaration_binders_step (binders_step n) (λ set. set.value) s

branches_at : (n : Naming) (at : At) (scrutinee : Expr) (branches : List (Pattern × Expr)) → spec.branches_of n (e.Case at scrutinee branches) ≡ spec.of_branches n branches
branches_at n at scrutinee branches = ap (λ x. spec.branches_layer n (out-Expr x)) (sym (e.rolls-Case at scrutinee branches)) ∙ ap (spec.branches_layer n) (out-roll-Expr (tree.Case at scrutinee branches))

take_all : {A : Type 0} (i : ℕ) (xs : List A) → length xs ≤ i → take i xs ≡ xs
take_all zero [] h = refl
take_all (suc i) [] h = refl
take_all zero (x ∷ xs) h = absurd (omega (arith, h))
take_all (suc i) (x ∷ xs) h = ap (λ ys. x ∷ ys) (take_all i xs (omega (arith, h)))

pub all_branches : (n : Naming) (tree : Expr) (at : At) (scrutinee : Expr) (branches items : List (Pattern × Expr)) (i : ℕ) (start out : Places) → tree ≡ e.Case at scrutinee branches → items ≡ branches → length items ≤ i →
    out ≡ both start (spec.of_branches n (take i items)) → out ≡ both start (spec.branches_of n tree)
all_branches n tree at scrutinee branches items i start out is same end here =
    here ∙ ap (λ l. both start (spec.of_branches n l)) (take_all i items end ∙ same)
    ∙ ap (both start) (sym (branches_at n at scrutinee branches) ∙ ap (spec.branches_of n) (sym is))
