use Rattle.std.proofs.Common.{◌≡◌, length}
use Rattle.expr_grammar.specs.Expressions as grammar
use Rattle.expr_parser.proofs.shapes.annotations_stand.Given as goal

-- what is left decides
abbrev pub invariant-turns : goal.invariant-turns
invariant-turns l = grammar.annotations_stand l.declarations ≡ grammar.annotations_stand l.rest

abbrev pub decreases-turns : goal.decreases-turns
decreases-turns l = length l.rest
