use Rattle.pattern_parser.proofs.TypeLaws.{one_type as one_type_lem}
use Rattle.pattern_parser.proofs.types.one_type.Goals as goal

pub returns : goal.returns
returns c = one_type_lem
