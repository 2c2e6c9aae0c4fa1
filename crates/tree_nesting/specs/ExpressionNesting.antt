-- How deep expressions and declarations nest.
use Rattle.std.specs.Prelude.{ℕ, ◌+◌, max, List, [], ◌∷◌, map, length}
use Rattle.elm_base.specs.declared.tree.Pattern.{Pattern}
use Rattle.elm_base.specs.declared.tree.Set.{Set}
use Rattle.elm_base.specs.declared.tree.Expr.{Expr, out-Expr}
use Rattle.elm_base.specs.declared.tree.Declaration.{Declaration}
use Rattle.elm_base.specs.declared.tree.Declaration.TheOpen as tree
use Rattle.elm_base.specs.declared.tree.Declaration.TheFolds.{fold-Expr, fold-Declaration, fold-Set}
use Rattle.tree_nesting.specs.Nesting.{most, around, type_nesting, pattern_nesting}

-- Of an expression, from the nestings of its parts. The parts of a chain count deeper by the number of its operators, those of a call by
-- the number of its arguments, and the body of a lambda by the number of its parameters.
abbrev pub expr_step : tree.Expr-F ℕ ℕ ℕ → ℕ
expr_step (tree.Chain at operands operators) = length operators + most operands
expr_step (tree.Binary at operator left right) = around (left ∷ right ∷ [])
expr_step (tree.Negate at inner) = around (inner ∷ [])
expr_step (tree.Call at function arguments) = length arguments + most (function ∷ arguments)
expr_step (tree.Access at from label) = around (from ∷ [])
expr_step (tree.Brackets at inner) = around (inner ∷ [])
expr_step (tree.Tuple at parts) = around parts
expr_step (tree.List at parts) = around parts
expr_step (tree.Range at low high) = around (low ∷ high ∷ [])
expr_step (tree.Fields at fields) = around fields
expr_step (tree.Extend at from fields) = around (from ∷ fields)
expr_step (tree.Update at from fields) = around (from ∷ fields)
expr_step (tree.Remove at from label fields) = around (from ∷ fields)
expr_step (tree.Lambda at patterns body) = max (around (map pattern_nesting patterns)) (length patterns + body)
expr_step (tree.If at condition first second) = around (condition ∷ first ∷ second ∷ [])
expr_step (tree.Guards at branches) = around (map (λ branch. max branch.0 branch.1) branches)
expr_step (tree.Let at definitions body) = around (body ∷ definitions)
expr_step (tree.Case at scrutinee branches) = around (scrutinee ∷ map (λ branch. max (pattern_nesting branch.0) branch.1) branches)
expr_step _ = 0

-- a declaration has the most of its parts, and its body counts deeper by the number of its parameters
abbrev pub declaration_step : tree.Declaration-F ℕ ℕ ℕ → ℕ
declaration_step (tree.Union at name parameters constructors) = most (map (λ made. most (map type_nesting made.arguments)) constructors)
declaration_step (tree.Alias at name parameters written) = type_nesting written
declaration_step (tree.Annotation at name written) = type_nesting written
declaration_step (tree.Definition at name patterns body) = max (most (map pattern_nesting patterns)) (length patterns + body)
declaration_step (tree.PatternDefinition at pattern body) = max (pattern_nesting pattern) body
declaration_step (tree.PortAnnotation at name written) = type_nesting written
declaration_step (tree.PortDefinition at name body) = body
declaration_step (tree.Native at name written number) = type_nesting written
declaration_step (tree.Device at name written) = type_nesting written
declaration_step _ = 0

abbrev pub expr_nesting : Expr → ℕ
expr_nesting = fold-Expr ℕ ℕ ℕ declaration_step expr_step (λ set. set.value)

abbrev pub declaration_nesting : Declaration → ℕ
declaration_nesting = fold-Declaration ℕ ℕ ℕ declaration_step expr_step (λ set. set.value)

-- of a record's field, the nesting of the expression that it takes
abbrev pub set_nesting : Set → ℕ
set_nesting = fold-Set ℕ ℕ ℕ declaration_step expr_step (λ set. set.value)

-- ---- the branches of an expression

abbrev pub guards_layer : {A B C : Type 0} → tree.Expr-F A B C → List (B × B)
guards_layer (tree.Guards at branches) = branches
guards_layer _ = []

-- of a multi-way `if`, each a condition and what it chooses
abbrev pub guards_of : Expr → List (Expr × Expr)
guards_of x = guards_layer (out-Expr x)

abbrev pub branches_layer : {A B C : Type 0} → tree.Expr-F A B C → List (Pattern × B)
branches_layer (tree.Case at scrutinee branches) = branches
branches_layer _ = []

-- of a `case`, each a pattern and what it chooses
abbrev pub branches_of : Expr → List (Pattern × Expr)
branches_of x = branches_layer (out-Expr x)
