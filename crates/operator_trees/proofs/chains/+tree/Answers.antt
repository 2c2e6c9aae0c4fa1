use Rattle.std.proofs.Common.{refl, sym, arith}
use Rattle.std.proofs.lemmas.Result.{err_from_is_err_and}
use Rattle.operator_trees.proofs.Building.{shorter_after, shorter_before, right_err, left_err, both_ok, none_left, one}
use Rattle.operator_trees.proofs.chains.+tree.Goals as goal

pub returns-then-is_empty : goal.returns-then-is_empty
returns-then-is_empty t c = one _ _ _ _ _ (none_left _ c.if-is_empty.ensures) c.last.ensures

pub tree-requires : goal.tree-requires
tree-requires t c = (let l = shorter_after _ _ _ _ _ c.in-Some.ensures.cut in omega (arith, l, c.decreases), tt)

pub tree-requires-2 : goal.tree-requires-2
tree-requires-2 t c = (let l = shorter_before _ _ _ _ _ c.in-Some.ensures.cut in omega (arith, l, c.decreases), tt)

pub returns-in_err-right : goal.returns-in_err-right
returns-in_err-right t c =
    let e = err_from_is_err_and c.from_residual.result c.from_residual.ensures.1 in
    rw (e.1, e.2) (right_err _ _ _ _ _ c.in-Some.ensures.cut c.args.operands.now c.tree.new.operands _ c.in_err-right.ensures)

pub returns-in_err-left : goal.returns-in_err-left
returns-in_err-left t c =
    let e = err_from_is_err_and c.from_residual-in_err-left.result c.from_residual-in_err-left.ensures.1 in
    rw (e.1, e.2) (left_err _ _ _ _ _ c.in-Some.ensures.cut c.args.operands.now c.tree.new.operands c.tree-2.new.operands c.in_ok-right.right _ c.in_ok-right.ensures c.in_err-left.ensures)

pub returns : goal.returns
returns t c = rw c.in_ok-binary.ensures (both_ok _ _ _ _ _ c.in-Some.ensures.cut c.args.operands.now c.tree.new.operands c.tree-2.new.operands c.in_ok-left.left c.in_ok-right.right c.in_ok-right.ensures c.in_ok-left.ensures)
