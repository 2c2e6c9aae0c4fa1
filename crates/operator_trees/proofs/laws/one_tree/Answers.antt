use Rattle.elm_base.specs.declared.tree.Expr.{Expr}
use Rattle.operator_trees.specs.Chains.{binds}
use Rattle.operator_trees.proofs.Shapes.{unique}
use Rattle.operator_trees.proofs.laws.one_tree.Goals as goal

pub returns : goal.returns
returns c declared es os s t h k = unique (binds declared) Expr es os s t h k
