use Rattle.port_literals.proofs.Printed.{printed_is}
use Rattle.port_literals.proofs.laws.a_printed_value_is_its_literal.Goals as goal

pub returns : goal.returns
returns c = printed_is
