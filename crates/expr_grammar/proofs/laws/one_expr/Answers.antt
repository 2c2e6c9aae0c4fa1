use Rattle.expr_grammar.proofs.ExprLaws.{one_expr as one_expr_lem}
use Rattle.expr_grammar.proofs.laws.one_expr.Goals as goal

pub returns : goal.returns
returns c = one_expr_lem
