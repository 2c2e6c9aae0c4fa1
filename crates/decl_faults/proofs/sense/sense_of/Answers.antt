use Rattle.decl_faults.proofs.Deciding.{decided}
use Rattle.decl_faults.proofs.sense.sense_of.Goals as goal

pub returns : goal.returns
returns c = decided c.args.tree.now c.makes_sense.result c.makes_sense.ensures
