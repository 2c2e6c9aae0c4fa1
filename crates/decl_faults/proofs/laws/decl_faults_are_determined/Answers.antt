use Rattle.decl_faults.proofs.Determined.{one_fault, not_both}
use Rattle.decl_faults.proofs.laws.decl_faults_are_determined.Goals as goal

pub returns : goal.returns
returns c = record {
  one = one_fault;
  not_both = not_both;
}
