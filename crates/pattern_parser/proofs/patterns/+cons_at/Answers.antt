use Rattle.std.proofs.Common.{◌≡◌, ap, arith}
use Rattle.pattern_parser.specs.PatternReader.{cons_at}
use Rattle.grammar.proofs.Depth.{deeper}
use Rattle.pattern_parser.proofs.patterns.+cons_at.Goals as goal

pub returns-then-depth-eq0 : goal.returns-then-depth-eq0
unfolding cons_at
returns-then-depth-eq0 t c _ = let none : c.args.depth ≡ 0 = omega arith in ap (λ n. cons_at n c.args.tokens.now) none

pub returns : goal.returns
unfolding cons_at
returns t c = rw (deeper (λ n. cons_at n c.args.tokens.now) c.args.depth (omega arith)) c.level.ensures
