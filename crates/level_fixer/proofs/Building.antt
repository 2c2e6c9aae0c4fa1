-- A chain whose operands are fixed, and its tree in its place.
use Rattle.std.proofs.Common.{◌≡◌, ◌≢◌, true, false, List, length, map, Result, Ok, Err, IfOk, IfErr, MatchResult, sym, ◌∙◌, ap, subst}
use Rattle.std.proofs.lemmas.List.{length-map}
use Rattle.std.proofs.lemmas.Bool.{or_from, or_right}
use Rattle.elm_base.specs.declared.memory.Halt.{Halt}
use Rattle.elm_base.specs.declared.memory.Halt.TheVariants as halt
use Rattle.elm_base.specs.declared.token.At.{At}
use Rattle.elm_base.specs.declared.tree.Operator.{Operator}
use Rattle.elm_base.specs.declared.tree.Expr.{Expr}
use Rattle.operator_trees.specs.declared.chains.Clash.{Clash}
use Rattle.operator_trees.specs.Chains.{binds, Stands}
use Rattle.operator_trees.specs.Levels.{Declared}
use Rattle.operator_trees.specs.Trees.{HasNoTree}
use Rattle.level_fixer.specs.Clashes.{any, expr_clashes, has_no_tree}
use Rattle.level_fixer.specs.FixedTrees.{fixed_expr, of_chain}
use Rattle.level_fixer.specs.Fixing.{Builds}
use Rattle.level_fixer.proofs.Chains.{built, none_told}

module _ (d : Declared) (es : List Expr) (os : List Operator) where
  alike : (parts : List Expr) → parts ≡ map (fixed_expr d) es → length parts ≡ length (map (expr_clashes d) es)
  alike parts e = ap length e ∙ length-map es (fixed_expr d) ∙ sym (length-map es (expr_clashes d))

  pub chain_builds : (parts : List Expr) (r : Result Expr (Halt Clash)) → any (map (expr_clashes d) es) ≡ false → parts ≡ map (fixed_expr d) es
      → IfOk r (λ x. Stands d parts os x) → IfErr r (λ cause. cause ≢ halt.NoMemory → HasNoTree (binds d) parts os) → Builds d es os r
  chain_builds parts (Ok x) none same ok refused = (
    or_from (any (map (expr_clashes d) es)) (has_no_tree d (length (map (expr_clashes d) es)) os) none
        (subst (λ z. has_no_tree d z os ≡ false) (alike parts same) (both (record { line = 0; column = 0 })).0),
    λ at. subst (λ z. x ≡ of_chain d at z os) same (both at).1,
  )
    where
      both : (at : At) → (has_no_tree d (length parts) os ≡ false) × (x ≡ of_chain d at parts os)
      both at = built d at parts os x ok
  chain_builds parts (Err cause) none same ok refused = λ known.
      or_right (any (map (expr_clashes d) es)) (has_no_tree d (length (map (expr_clashes d) es)) os)
      (subst (λ z. has_no_tree d z os ≡ true) (alike parts same) (none_told d parts os (refused known)))

  -- in a box
  pub boxed_builds : (made r : Result Expr (Halt Clash)) → Builds d es os made
      → MatchResult r (λ x. made ≡ Ok x) (λ cause. cause ≢ halt.NoMemory → made ≡ Err cause) → Builds d es os r
  boxed_builds made (Ok x) b e = subst (Builds d es os) e b
  boxed_builds made (Err cause) b e = λ known. subst (Builds d es os) (e known) b known
