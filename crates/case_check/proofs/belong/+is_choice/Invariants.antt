use Rattle.std.proofs.Common.{length}
use Rattle.case_check.proofs.belong.+is_choice.Given as goal

abbrev pub decreases-is_choice : goal.decreases-is_choice
decreases-is_choice c = length c.union.now
