use Rattle.std.proofs.Common.{◌≡◌, List, length}
use Rattle.elm_base.specs.declared.tree.Operator.{Operator}
use Rattle.elm_base.specs.declared.tree.Expr.{Expr}
use Rattle.grammar.specs.Reader.{with_front, linked}
use Rattle.expr_grammar.specs.ExprReader as m
use Rattle.expr_parser.specs.Chains.{apart}
use Rattle.expr_parser.proofs.exprs.Exprs.links.Given as goal

-- what is left to read goes behind what was found, of which the operators and the operands are kept apart
abbrev pub invariant-turns : goal.invariant-turns
invariant-turns g l =
    (found : List (Operator × Expr)) × (apart found ≡ (l.operators, l.operands))
    × (m.links (m.below l.self.depth) l.fn.tokens ≡ with_front found (m.links (m.below l.self.depth) l.tokens))

abbrev pub decreases-turns : goal.decreases-turns
decreases-turns g l = length l.tokens
