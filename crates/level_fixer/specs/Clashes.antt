-- Whether a chain without a tree stands in an expression.
use Rattle.std.specs.Prelude.{ℕ, suc, nat_eq, nat_lt, Bool, true, false, not, ◌&&◌, ◌||◌, List, [], ◌∷◌, length, map}
use Rattle.elm_base.specs.declared.tree.Side.{Side}
use Rattle.elm_base.specs.declared.tree.Side.TheVariants.{Left, Right}
use Rattle.elm_base.specs.declared.tree.Operator.{Operator}
use Rattle.elm_base.specs.declared.tree.Expr.{Expr}
use Rattle.elm_base.specs.declared.tree.Set.{Set}
use Rattle.elm_base.specs.declared.tree.Declaration.{Declaration}
use Rattle.elm_base.specs.declared.tree.Declaration.TheOpen as tree
use Rattle.elm_base.specs.declared.tree.Declaration.TheFolds.{fold-Expr, fold-Declaration, fold-Set}
use Rattle.operator_trees.specs.declared.binding.Binding.{Binding}
use Rattle.operator_trees.specs.Levels.{Declared}
use Rattle.operator_trees.specs.Chains.{binds}

-- both group to this one side
abbrev pub group_alike : Side → Side → Bool
group_alike Left Left = true
group_alike Right Right = true
group_alike _ _ = false

-- two of one level that differ in side, or group to none
abbrev pub disagree : Binding → Binding → Bool
disagree a b = nat_eq a.level b.level && not (group_alike a.side b.side)

-- the first disagrees with one of the others, with only higher levels between them
abbrev pub meets_clash : Binding → List Binding → Bool
meets_clash a [] = false
meets_clash a (b ∷ bs) = disagree a b || (nat_lt a.level b.level && meets_clash a bs)

-- two of them disagree, with only higher levels between them
abbrev pub has_clash : List Binding → Bool
has_clash [] = false
has_clash (b ∷ bs) = meets_clash b bs || has_clash bs

-- so many operands with these operators between them have no tree
abbrev pub has_no_tree : Declared → ℕ → List Operator → Bool
has_no_tree declared n os = not (nat_eq n (suc (length os))) || has_clash (map (binds declared) os)

-- at one of them
abbrev pub any : List Bool → Bool
any [] = false
any (x ∷ xs) = x || any xs

-- ---- in trees, from their parts

abbrev pub declaration_step : tree.Declaration-F Bool Bool Bool → Bool
declaration_step (tree.Definition at name patterns body) = body
declaration_step (tree.PatternDefinition at pattern body) = body
declaration_step (tree.PortDefinition at name body) = body
declaration_step _ = false

-- Whether something stands in a node, from its parts: `chain` says it of a chain, whose operands and operators it is given.
abbrev pub in_expr : (List Bool → List Operator → Bool) → tree.Expr-F Bool Bool Bool → Bool
in_expr chain (tree.Chain at operands operators) = chain operands operators
in_expr chain (tree.Binary at operator left right) = left || right
in_expr chain (tree.Negate at inner) = inner
in_expr chain (tree.Call at function arguments) = function || any arguments
in_expr chain (tree.Access at from label) = from
in_expr chain (tree.Brackets at inner) = inner
in_expr chain (tree.Tuple at parts) = any parts
in_expr chain (tree.List at parts) = any parts
in_expr chain (tree.Range at low high) = low || high
in_expr chain (tree.Fields at fields) = any fields
in_expr chain (tree.Extend at from fields) = from || any fields
in_expr chain (tree.Update at from fields) = from || any fields
in_expr chain (tree.Remove at from label fields) = from || any fields
in_expr chain (tree.Lambda at patterns body) = body
in_expr chain (tree.If at condition first second) = condition || (first || second)
in_expr chain (tree.Guards at branches) = any (map (λ branch. branch.0 || branch.1) branches)
in_expr chain (tree.Let at definitions body) = any definitions || body
in_expr chain (tree.Case at scrutinee branches) = scrutinee || any (map (λ branch. branch.1) branches)
in_expr chain _ = false

abbrev pub expr_step : Declared → tree.Expr-F Bool Bool Bool → Bool
expr_step d = in_expr (λ operands operators. any operands || has_no_tree d (length operands) operators)

-- a chain without a tree stands in it
abbrev pub expr_clashes : Declared → Expr → Bool
expr_clashes d = fold-Expr Bool Bool Bool declaration_step (expr_step d) (λ set. set.value)

abbrev pub set_clashes : Declared → Set → Bool
set_clashes d = fold-Set Bool Bool Bool declaration_step (expr_step d) (λ set. set.value)

abbrev pub declaration_clashes : Declared → Declaration → Bool
declaration_clashes d = fold-Declaration Bool Bool Bool declaration_step (expr_step d) (λ set. set.value)
