use Rattle.port_texts.proofs.Complete.{read_rightly, refused_rightly}
use Rattle.port_texts.proofs.read.read_type.Goals as goal

pub returns-clause-read : goal.returns-clause-read
returns-clause-read c = read_rightly c.args.text.now c.read.result c.read.ensures

pub returns-clause-refused : goal.returns-clause-refused
returns-clause-refused c = refused_rightly c.args.text.now c.read.result c.read.ensures
