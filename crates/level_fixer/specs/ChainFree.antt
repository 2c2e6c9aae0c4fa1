-- Whether a chain stands in a tree, in a module, in a project.
use Rattle.std.specs.Prelude.{Bool, true, map}
use Rattle.elm_base.specs.declared.tree.Expr.{Expr}
use Rattle.elm_base.specs.declared.tree.Set.{Set}
use Rattle.elm_base.specs.declared.tree.Declaration.{Declaration}
use Rattle.elm_base.specs.declared.tree.Declaration.TheOpen as tree
use Rattle.elm_base.specs.declared.tree.Declaration.TheFolds.{fold-Expr, fold-Declaration, fold-Set}
use Rattle.elm_base.specs.declared.tree.Module.{Module}
use Rattle.elm_base.specs.declared.project.Project.{Project}
use Rattle.level_fixer.specs.Clashes.{any, declaration_step, in_expr}

-- a chain is one, whatever stands in it
abbrev pub chain_step : tree.Expr-F Bool Bool Bool → Bool
chain_step = in_expr (λ operands operators. true)

abbrev pub expr_has_chain : Expr → Bool
expr_has_chain = fold-Expr Bool Bool Bool declaration_step chain_step (λ set. set.value)

abbrev pub set_has_chain : Set → Bool
set_has_chain = fold-Set Bool Bool Bool declaration_step chain_step (λ set. set.value)

abbrev pub declaration_has_chain : Declaration → Bool
declaration_has_chain = fold-Declaration Bool Bool Bool declaration_step chain_step (λ set. set.value)

abbrev pub module_has_chain : Module → Bool
module_has_chain m = any (map declaration_has_chain m.declarations)

abbrev pub has_chain : Project → Bool
has_chain p = any (map module_has_chain p.modules)
