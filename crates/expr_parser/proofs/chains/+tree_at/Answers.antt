use Rattle.std.proofs.Common.{◌≡◌, true, false, ap, arith}
use Rattle.grammar.proofs.Depth.{deeper}
use Rattle.expr_grammar.specs.ExprReader.{tree_at}
use Rattle.expr_parser.proofs.chains.+tree_at.Goals as goal

pub returns-then-depth-eq0 : goal.returns-then-depth-eq0
unfolding tree_at
returns-then-depth-eq0 t c _ = let none : c.args.depth ≡ 0 = omega arith in ap (λ n. tree_at c.args.alone n c.args.tokens.now) none

pub returns-then-alone : goal.returns-then-alone
unfolding tree_at
returns-then-alone t c = rw (c.if-alone.true, deeper (λ n. tree_at true n c.args.tokens.now) c.args.depth (omega arith)) c.atom.ensures

pub returns-else-alone : goal.returns-else-alone
unfolding tree_at
returns-else-alone t c = rw (c.if-alone.false, deeper (λ n. tree_at false n c.args.tokens.now) c.args.depth (omega arith)) c.level.ensures
