use Rattle.std.proofs.Common.{◌≡◌, length}
use Rattle.expr_grammar.specs.Expressions.{accessed_at}
use Rattle.expr_parser.proofs.applications.accessed.Given as goal

-- the labels that are left go on from what was made
abbrev pub invariant-turns : goal.invariant-turns
invariant-turns l = accessed_at l.fn.at l.fn.whole l.fn.labels ≡ accessed_at l.fn.at l.tree l.labels

abbrev pub decreases-turns : goal.decreases-turns
decreases-turns l = length l.labels
