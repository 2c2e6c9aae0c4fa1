-- What the forms with branches and with definitions have of too large blocks, and a turn of a loop over parts.
use Rattle.std.proofs.Common.{◌≡◌, ◌<◌, ◌≤◌, ℕ, ◌+◌, List, [], ◌∷◌, length, map, take, get_or, Option, refl, sym, ◌∙◌, ap, subst, add-one, take_all}
use Rattle.std.proofs.Math.Seq.{take-suc}
use Rattle.std.proofs.lemmas.List.{map-append}
use Rattle.elm_base.specs.declared.token.At.{At}
use Rattle.elm_base.specs.declared.tree.Pattern.{Pattern}
use Rattle.elm_base.specs.declared.tree.Set.{Set, roll-Set}
use Rattle.elm_base.specs.declared.tree.Expr.{Expr}
use Rattle.elm_base.specs.declared.tree.Expr.TheVariants as e
use Rattle.elm_base.specs.declared.tree.Declaration.{Declaration}
use Rattle.elm_base.specs.declared.tree.Declaration.TheOpen as tree
use Rattle.elm_base.specs.declared.tree.Declaration.TheFolds.{fold-roll-Expr, fold-roll-Set}
use Rattle.tree_nesting.proofs.NestingLaws.{map_twice}
use Rattle.block_sizes.specs.BlockSizes.{earlier, earliest, over, Sizes, declaration_step, expr_step, large_expr, large_set, sizes, defined_at, large_declaration}
use Rattle.block_sizes.proofs.Earliest.{earliest_append}

pub of_guards : (at : At) (branches : List (Expr × Expr)) → large_expr (e.Guards at branches) ≡ earliest (map (λ branch. earlier (large_expr branch.0) (large_expr branch.1)) branches)
of_guards at branches =
    ap large_expr (sym (e.rolls-Guards at branches)) ∙ fold-roll-Expr Sizes (Option ℕ) (Option ℕ) declaration_step expr_step (λ set. set.value) (tree.Guards at branches)
    ∙ ap earliest (map_twice (λ branch. earlier branch.0 branch.1) (λ (branch : Expr × Expr). (large_expr branch.0, large_expr branch.1)) branches)

pub of_case : (at : At) (x : Expr) (branches : List (Pattern × Expr)) → large_expr (e.Case at x branches) ≡ earlier (large_expr x) (earliest (map (λ branch. large_expr branch.1) branches))
of_case at x branches =
    ap large_expr (sym (e.rolls-Case at x branches)) ∙ fold-roll-Expr Sizes (Option ℕ) (Option ℕ) declaration_step expr_step (λ set. set.value) (tree.Case at x branches)
    ∙ ap (λ z. earlier (large_expr x) (earliest z)) (map_twice (λ branch. branch.1) (λ (branch : Pattern × Expr). (branch.0, large_expr branch.1)) branches)

pub of_let : (at : At) (definitions : List Declaration) (x : Expr) → large_expr (e.Let at definitions x)
    ≡ earlier (over (map defined_at definitions)) (earlier (earliest (map large_declaration definitions)) (large_expr x))
of_let at definitions x =
    ap large_expr (sym (e.rolls-Let at definitions x)) ∙ fold-roll-Expr Sizes (Option ℕ) (Option ℕ) declaration_step expr_step (λ set. set.value) (tree.Let at definitions x)
    ∙ ap (λ z. earlier (over z) (earlier (earliest (map (λ (y : Sizes). y.large) (map sizes definitions))) (large_expr x))) (map_twice (λ (y : Sizes). y.defines) sizes definitions)
    ∙ ap (λ z. earlier (over (map defined_at definitions)) (earlier (earliest z) (large_expr x))) (map_twice (λ (y : Sizes). y.large) sizes definitions)

of_set : (at : At) (label : List ℕ) (x : Expr) → large_set (roll-Set (record { at = at; label = label; value = x })) ≡ large_expr x
of_set at label x = fold-roll-Set Sizes (Option ℕ) (Option ℕ) declaration_step expr_step (λ set. set.value) (record { at = at; label = label; value = x })

pub of_field : (set : Set) → large_set set ≡ large_expr set.value
of_field set = of_set set.at set.label set.value

module _ {A : Type 0} (f : A → Option ℕ) (xs : List A) (i : ℕ) where
  pub turn : (item : A) (found next : Option ℕ) → i < length xs → item ≡ get_or xs i item → found ≡ earliest (map f (take i xs)) → next ≡ earlier found (f item)
      → next ≡ earliest (map f (take (i + 1) xs))
  turn item found next here is so e =
      e ∙ ap (λ z. earlier z (f item)) so ∙ ap (λ z. earlier (earliest (map f (take i xs))) (f z)) is
      ∙ rw (add-one, take-suc xs i item here, map-append) (sym (earliest_append (map f (take i xs)) (f (get_or xs i item))))

  pub ends : (found : Option ℕ) → length xs ≤ i → found ≡ earliest (map f (take i xs)) → found ≡ earliest (map f xs)
  ends found past so = so ∙ ap (λ z. earliest (map f z)) (take_all i xs past)
