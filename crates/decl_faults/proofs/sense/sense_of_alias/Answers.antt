use Rattle.type_sense.specs.Parameters.{with_parameters}
use Rattle.decl_faults.proofs.Deciding.{decided}
use Rattle.decl_faults.proofs.sense.sense_of_alias.Goals as goal

pub returns : goal.returns
returns c = decided (with_parameters c.args.tree.now) c.alias_makes_sense.result c.alias_makes_sense.ensures
