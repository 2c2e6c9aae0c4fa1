use Rattle.port_values.proofs.DefaultLaws.{default_is}
use Rattle.port_values.proofs.laws.default_is_of_its_type.Goals as goal

pub returns : goal.returns
returns c = default_is
