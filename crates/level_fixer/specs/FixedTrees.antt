-- A project whose levels are applied: each chain, innermost first, has given its place to its tree, and all else is as it was.
use Rattle.std.specs.Prelude.{List, [], ◌∷◌, map}
use Rattle.elm_base.specs.declared.token.At.{At}
use Rattle.elm_base.specs.declared.tree.Operator.{Operator}
use Rattle.elm_base.specs.declared.tree.Expr.{Expr, roll-Expr}
use Rattle.elm_base.specs.declared.tree.Expr.TheVariants as e
use Rattle.elm_base.specs.declared.tree.Set.{Set, roll-Set}
use Rattle.elm_base.specs.declared.tree.Declaration.{Declaration, roll-Declaration}
use Rattle.elm_base.specs.declared.tree.Declaration.TheOpen as tree
use Rattle.elm_base.specs.declared.tree.Declaration.TheFolds.{fold-Expr, fold-Declaration, fold-Set}
use Rattle.elm_base.specs.declared.tree.Module.{Module}
use Rattle.elm_base.specs.declared.project.Project.{Project}
use Rattle.operator_trees.specs.Levels.{Declared}
use Rattle.operator_trees.specs.Chains.{binds, expr_of}
use Rattle.operator_trees.specs.Trees.{Operand}
use Rattle.level_fixer.specs.GrownTrees.{grown}
use Rattle.level_fixer.specs.ProjectLevels.{declared_in}

-- the expression of a chain's tree, where the chain has one
abbrev pub of_chain : Declared → At → List Expr → List Operator → Expr
of_chain declared at [] os = e.Chain at [] os
of_chain declared at (x ∷ xs) os = expr_of (grown (binds declared) (Operand x) os xs)

-- a node whose parts are fixed
abbrev pub fixed_layer : Declared → tree.Expr-F Declaration Expr Set → Expr
fixed_layer declared (tree.Chain at operands operators) = of_chain declared at operands operators
fixed_layer declared layer = roll-Expr layer

abbrev pub fixed_expr : Declared → Expr → Expr
fixed_expr declared = fold-Expr Declaration Expr Set roll-Declaration (fixed_layer declared) roll-Set

abbrev pub fixed_set : Declared → Set → Set
fixed_set declared = fold-Set Declaration Expr Set roll-Declaration (fixed_layer declared) roll-Set

abbrev pub fixed_declaration : Declared → Declaration → Declaration
fixed_declaration declared = fold-Declaration Declaration Expr Set roll-Declaration (fixed_layer declared) roll-Set

abbrev pub fixed_module : Declared → Module → Module
fixed_module declared m = record m { declarations = map (fixed_declaration declared) m.declarations }

abbrev pub fixed_project : Project → Project
fixed_project p = record { modules = map (fixed_module (declared_in p)) p.modules }
