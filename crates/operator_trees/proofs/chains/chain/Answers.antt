use Rattle.std.proofs.Common.{◌≡◌, [], suc, length, List, refl, sym, ◌∙◌, ap}
use Rattle.std.proofs.lemmas.Result.{err_from_is_err_and}
use Rattle.elm_base.specs.declared.tree.Expr.{Expr}
use Rattle.operator_trees.specs.Chains.{binds}
use Rattle.operator_trees.proofs.Building.{no_tree}
use Rattle.operator_trees.proofs.Shapes.{clash_refuses}
use Rattle.operator_trees.proofs.chains.chain.Goals as goal

pub returns-then-not-stand_between-clause-refused :
    goal.returns-then-not-stand_between-clause-refused
returns-then-not-stand_between-clause-refused c known =
    no_tree c.args.levels.now.declared c.args.operands c.args.operators.now
    (λ e. let f = c.if-not-stand_between.ensures.1 (ap length c.as_slice.ensures ∙ e) in cc)

pub returns-in_err-tree-clause-refused : goal.returns-in_err-tree-clause-refused
returns-in_err-tree-clause-refused c =
    let e = err_from_is_err_and c.from_residual.result c.from_residual.ensures.1 in
    let long : length c.args.operands ≡ suc (length c.args.operators.now) = ap length (sym c.as_slice.ensures) ∙ c.if-not-stand_between.ensures.0 refl in
    rw (e.1, e.2)
    (λ known. clash_refuses (binds c.args.levels.now.declared) Expr c.args.operands c.args.operators.now
    (c.in_err-tree.ensures [] c.args.operands refl long known))

pub returns-clause-ok : goal.returns-clause-ok
returns-clause-ok c =
    let long : length c.args.operands ≡ suc (length c.args.operators.now) = ap length (sym c.as_slice.ensures) ∙ c.if-not-stand_between.ensures.0 refl in
    rw c.into_inner.ensures (c.in_ok-tree.ensures [] c.args.operands refl long).1
