use Rattle.std.proofs.Common.{sym, ◌∙◌, ap}
use Rattle.elm_base.specs.declared.tree.Expr.{Expr}
use Rattle.elm_base.specs.declared.tree.Pattern.{Pattern}
use Rattle.expr_grammar.specs.Expressions.{ends_in_guards}
use Rattle.expr_grammar.proofs.GuardLaws.{of_case}
use Rattle.expr_parser.proofs.LastLaws.{last_at}
use Rattle.expr_parser.proofs.shapes.+ends.Goals as goal

pub ends_in_guards-returns-in-len1-up : goal.ends_in_guards-returns-in-len1-up
ends_in_guards-returns-in-len1-up t c =
    rw (c.in-Case.is, of_case, ← c.as_slice-in-Case.ensures)
    (c.ends_in_guards-in-len1-up.ensures ∙ sym (last_at (λ (branch : Pattern × Expr). ends_in_guards branch.1) c.as_slice-in-Case.result.now c.index-last.result c.in-len1-up.len_at_least))

pub last_ends_in_guards-returns-in-len1-up : goal.last_ends_in_guards-returns-in-len1-up
last_ends_in_guards-returns-in-len1-up t c =
    c.ends_in_guards.ensures ∙ ap ends_in_guards c.last-item.is ∙ sym (last_at ends_in_guards c.args.trees.now c.last-item.result c.in-len1-up.len_at_least)
