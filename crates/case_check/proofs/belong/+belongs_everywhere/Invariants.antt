use Rattle.std.proofs.Common.{length}
use Rattle.case_check.proofs.belong.+belongs_everywhere.Given as goal

abbrev pub decreases-belongs_everywhere : goal.decreases-belongs_everywhere
decreases-belongs_everywhere c = length c.forms.now
