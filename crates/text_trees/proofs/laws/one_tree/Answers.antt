use Rattle.pattern_parser.specs.Types.{DerivesType}
use Rattle.pattern_parser.specs.Patterns.{DerivesPattern}
use Rattle.pattern_parser.proofs.TypeLaws.{one_type}
use Rattle.pattern_parser.proofs.PatternLaws.{one_pattern}
use Rattle.expr_grammar.specs.Expressions.{DerivesExpr}
use Rattle.expr_grammar.proofs.ExprLaws.{one_expr}
use Rattle.text_trees.proofs.OneTree.{one_tree}
use Rattle.text_trees.proofs.laws.one_tree.Goals as goal

pub returns-clause-one_type : goal.returns-clause-one_type
returns-clause-one_type c = one_tree DerivesType one_type

pub returns-clause-one_pattern : goal.returns-clause-one_pattern
returns-clause-one_pattern c = one_tree DerivesPattern one_pattern

pub returns-clause-one_expr : goal.returns-clause-one_expr
returns-clause-one_expr c = one_tree DerivesExpr one_expr
