-- A `case`, whose branches are read in two steps.
use Rattle.std.proofs.Common.{◌≡◌, ◌∙◌, ℕ, List, [], ◌∷◌, map, refl, sym, ap}
use Rattle.elm_base.specs.declared.token.At.{At}
use Rattle.elm_base.specs.declared.tree.Pattern.{Pattern}
use Rattle.elm_base.specs.declared.tree.Expr.{Expr, out-Expr, out-roll-Expr}
use Rattle.elm_base.specs.declared.tree.Expr.TheVariants as e
use Rattle.elm_base.specs.declared.tree.Declaration.TheOpen as tree
use Rattle.elm_base.specs.declared.tree.Declaration.TheFolds.{fold-roll-Expr}
use Rattle.typing_rules.specs.Core.{Core, Case}
use Rattle.plain_form.specs.Naming.{Naming}
use Rattle.plain_form.specs.PlainForm.{Defined, declaration_step, expr_step, plain, plain_pattern, branches}
use Rattle.core_trees.specs.declared.pattern.PatternTree.{PatternTree}
use Rattle.core_trees.specs.declared.tree.CoreTree.{CoreTree}
use Rattle.core_trees.specs.declared.tree.CoreTree.TheVariants as t
use Rattle.core_trees.specs.declared.tree.CoreTree.TheOpen as core
use Rattle.core_trees.specs.declared.tree.CoreTree.TheFolds.{fold-roll-CoreTree}
use Rattle.core_trees.specs.PatternReading.{pattern_of}
use Rattle.core_trees.specs.Reading.{Function, Group, core_step, function_step, group_step, core_of}
use Rattle.core_plain.specs.Making.{branch_of, branch_from, branches_in, branching_layer, branching_of, branches_layer}

map_twice : {A B C : Type 0} (g : B → C) (f : A → B) (xs : List A) → map g (map f xs) ≡ map (λ x. g (f x)) xs
map_twice g f [] = refl
map_twice g f (x ∷ xs) = ap (λ l. g (f x) ∷ l) (map_twice g f xs)

case_plain : (n : Naming) (at : At) (x : Expr) (bs : List (Pattern × Expr)) → plain n (e.Case at x bs) ≡ Case (plain n x) (branches (map (branch_from n) bs))
case_plain n at x bs =
    ap (plain n) (sym (e.rolls-Case at x bs))
    ∙ fold-roll-Expr Defined Core (List ℕ × Core) (declaration_step n) (expr_step n) (λ set. (set.label, set.value)) (tree.Case at x bs)
    ∙ ap (λ l. Case (plain n x) (branches l)) (map_twice (λ choice. (plain_pattern n choice.0, choice.1)) (λ b. (b.0, plain n b.1)) bs)

case_branching : (n : Naming) (at : At) (x : Expr) (bs : List (Pattern × Expr)) → branching_of n (e.Case at x bs) ≡ Case (plain n x) (branches (map (branch_from n) bs))
case_branching n at x bs = ap (λ y. branching_layer n (out-Expr y)) (sym (e.rolls-Case at x bs)) ∙ ap (branching_layer n) (out-roll-Expr (tree.Case at x bs))

case_branches : (n : Naming) (at : At) (x : Expr) (bs : List (Pattern × Expr)) → branches_in n (e.Case at x bs) ≡ map (branch_from n) bs
case_branches n at x bs = ap (λ y. branches_layer n (out-Expr y)) (sym (e.rolls-Case at x bs)) ∙ ap (branches_layer n) (out-roll-Expr (tree.Case at x bs))

case_core : (s : CoreTree) (bs : List (PatternTree × CoreTree)) → core_of (t.Case s bs) ≡ Case (core_of s) (branches (map branch_of bs))
case_core s bs =
    ap core_of (sym (t.rolls-Case s bs)) ∙ fold-roll-CoreTree Core Group Function core_step group_step function_step (core.Case s bs)
    ∙ ap (λ l. Case (core_of s) (branches l)) (map_twice (λ choice. (pattern_of choice.0, choice.1)) (λ b. (b.0, core_of b.1)) bs)

pub case_made : (n : Naming) (whole : Expr) (at : At) (x : Expr) (choices : List (Pattern × Expr)) (s : CoreTree) (bs : List (PatternTree × CoreTree)) → whole ≡ e.Case at x choices →
    core_of s ≡ plain n x → map branch_of bs ≡ branches_in n whole → core_of (t.Case s bs) ≡ branching_of n whole
case_made n whole at x choices s bs is scrutinee made =
    case_core s bs ∙ ap (λ y. Case y (branches (map branch_of bs))) scrutinee
    ∙ ap (λ l. Case (plain n x) (branches l)) (made ∙ ap (branches_in n) is ∙ case_branches n at x choices)
    ∙ sym (case_branching n at x choices) ∙ ap (branching_of n) (sym is)

pub case_same : (n : Naming) (whole : Expr) (at : At) (x : Expr) (choices : List (Pattern × Expr)) → whole ≡ e.Case at x choices → branching_of n whole ≡ plain n whole
case_same n whole at x choices is = ap (branching_of n) is ∙ case_branching n at x choices ∙ sym (case_plain n at x choices) ∙ ap (plain n) (sym is)
