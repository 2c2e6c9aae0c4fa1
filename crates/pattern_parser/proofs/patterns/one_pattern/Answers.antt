use Rattle.pattern_parser.proofs.PatternLaws.{one_pattern as one_pattern_lem}
use Rattle.pattern_parser.proofs.patterns.one_pattern.Goals as goal

pub returns : goal.returns
returns c = one_pattern_lem
