use Rattle.port_texts.proofs.PortLaws.{ports, nestings}
use Rattle.port_texts.proofs.laws.given_types_are_ports.Goals as goal

pub returns-clause-ports : goal.returns-clause-ports
returns-clause-ports c = ports

pub returns-clause-nestings : goal.returns-clause-nestings
returns-clause-nestings c = nestings
