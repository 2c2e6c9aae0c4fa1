use Rattle.port_literals.proofs.Wholes.{read_rightly, refused_rightly}
use Rattle.port_literals.proofs.value.read_value.Goals as goal

pub returns-clause-read : goal.returns-clause-read
returns-clause-read c = read_rightly c.args.port.now c.args.text.now c.value.result c.requires c.value.ensures

pub returns-clause-refused : goal.returns-clause-refused
returns-clause-refused c = refused_rightly c.args.port.now c.args.text.now c.value.result c.requires c.value.ensures
