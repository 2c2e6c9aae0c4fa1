use Rattle.port_literals.proofs.Unique.{one_value}
use Rattle.port_literals.proofs.laws.a_literal_has_one_value.Goals as goal

pub returns : goal.returns
returns c = one_value
