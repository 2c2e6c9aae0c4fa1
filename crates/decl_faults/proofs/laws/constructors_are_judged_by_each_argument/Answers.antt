use Rattle.decl_faults.proofs.Constructors.{by_each_argument}
use Rattle.decl_faults.proofs.laws.constructors_are_judged_by_each_argument.Goals as goal

pub returns : goal.returns
returns c = by_each_argument
