use Rattle.well_sorted.proofs.Variables.{variables-sorted}
use Rattle.well_sorted.proofs.laws.variables_can_be_sorted.Goals as goal

pub returns : goal.returns
returns c = variables-sorted
