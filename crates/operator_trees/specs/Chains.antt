-- The expressions that chains stand for.
use Rattle.std.specs.Prelude.{◌≡◌, ◌≢◌, List, [], ◌∷◌, ◌++◌, Result, Ok, Err}
use Rattle.elm_base.specs.declared.memory.Halt.{Halt}
use Rattle.elm_base.specs.declared.memory.Halt.TheVariants as halt
use Rattle.elm_base.specs.declared.token.At.{At}
use Rattle.elm_base.specs.declared.tree.Operator.{Operator}
use Rattle.elm_base.specs.declared.tree.Expr.{Expr, out-Expr}
use Rattle.elm_base.specs.declared.tree.Expr.TheVariants as e
use Rattle.elm_base.specs.declared.tree.Declaration.TheOpen as tree
use Rattle.operator_trees.specs.declared.binding.Binding.{Binding}
use Rattle.operator_trees.specs.declared.chains.Clash.{Clash}
use Rattle.operator_trees.specs.Levels.{Declared, binding_of}
use Rattle.operator_trees.specs.Binds.{Each, MayStandLeft, MayStandRight, HasClash}
use Rattle.operator_trees.specs.Trees.{OperatorTree, made_by, IsTreeOf}

abbrev place_layer : {A B C : Type 0} → tree.Expr-F A B C → At
place_layer (tree.Chain at operands operators) = at
place_layer (tree.Binary at operator left right) = at
place_layer (tree.Negate at inner) = at
place_layer (tree.Call at function arguments) = at
place_layer (tree.Int at value) = at
place_layer (tree.Char at value) = at
place_layer (tree.Text at value) = at
place_layer (tree.Variable at name) = at
place_layer (tree.Constructor at name) = at
place_layer (tree.FieldFunction at label) = at
place_layer (tree.Access at from label) = at
place_layer (tree.OperatorName at name) = at
place_layer (tree.TupleMaker at parts) = at
place_layer (tree.Unit at) = at
place_layer (tree.Brackets at inner) = at
place_layer (tree.Tuple at parts) = at
place_layer (tree.List at parts) = at
place_layer (tree.Range at low high) = at
place_layer (tree.Fields at fields) = at
place_layer (tree.Extend at from fields) = at
place_layer (tree.Update at from fields) = at
place_layer (tree.Remove at from label fields) = at
place_layer (tree.Lambda at patterns body) = at
place_layer (tree.If at condition first second) = at
place_layer (tree.Guards at branches) = at
place_layer (tree.Let at definitions body) = at
place_layer (tree.Case at scrutinee branches) = at

-- where an expression begins
abbrev pub place : Expr → At
place x = place_layer (out-Expr x)

-- an operator between two expressions begins where the left one does
abbrev pub binary : Operator → Expr → Expr → Expr
binary operator left right = e.Binary (place left) operator left right

-- the expression of a chain's tree
abbrev pub expr_of : OperatorTree Operator Expr → Expr
expr_of = made_by (λ operand. operand) binary

-- the level and side of an operator in a project that declares these
abbrev pub binds : Declared → Operator → Binding
binds declared operator = binding_of declared operator.name

-- the expression is that of a tree of the chain
abbrev pub Stands : Declared → List Expr → List Operator → Expr → Type 0
Stands declared es os x =
    (tree : OperatorTree Operator Expr) × IsTreeOf (binds declared) es os tree × (x ≡ expr_of tree)

-- the operators before the root, the root, and those behind it
pub record IsCut (binding : Operator → Binding) (os before : List Operator) (root : Operator) (after : List Operator) : Type 0 where
  pub cut : os ≡ before ++ root ∷ after
  pub left : Each (λ p. MayStandLeft (binding root) (binding p)) before
  pub right : Each (λ p. MayStandRight (binding root) (binding p)) after

-- The last operands were taken, and make the expression; or the operators clash, unless memory ran out.
abbrev pub Builds : Declared → List Expr → List Expr → List Operator → List Expr → Result Expr (Halt Clash) → Type 0
Builds declared front es os left (Ok x) = (left ≡ front) × Stands declared es os x
Builds declared front es os left (Err cause) = cause ≢ halt.NoMemory → HasClash (binds declared) os

-- the last operand was taken, unless memory ran out
abbrev pub Takes : List Expr → Expr → List Expr → Result Expr (Halt Clash) → Type 0
Takes front x left (Ok taken) = (left ≡ front) × (taken ≡ x)
Takes front x left (Err cause) = cause ≡ halt.NoMemory
