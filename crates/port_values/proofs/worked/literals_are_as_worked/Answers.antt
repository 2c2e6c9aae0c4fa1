use Rattle.port_values.proofs.LiteralCases.{literals}
use Rattle.port_values.proofs.worked.literals_are_as_worked.Goals as goal

pub returns : goal.returns
returns c = literals
