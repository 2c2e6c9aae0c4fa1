use Rattle.std.proofs.Common.{map}
use Rattle.case_check.specs.Shapes.{wanteds, weight, weights}
use Rattle.case_check.specs.Trees.{wanted_of}
use Rattle.case_check.proofs.belong.+belong.Given as goal

-- how much the pattern asks for
abbrev pub decreases-belongs : goal.decreases-belongs
decreases-belongs c = weight (wanted_of c.form.now)

abbrev pub decreases-belong_at : goal.decreases-belong_at
decreases-belong_at c = weights (wanteds (map wanted_of c.forms.now))
