use Rattle.std.proofs.Common.{map}
use Rattle.case_check.specs.Shapes.{wanteds, weight, weights}
use Rattle.case_check.specs.Trees.{wanted_of}
use Rattle.case_check.proofs.clash.+clash.Given as goal

-- how much the pattern asks for
abbrev pub decreases-clashes : goal.decreases-clashes
decreases-clashes c = weight (wanted_of c.form.now)

abbrev pub decreases-clash_at : goal.decreases-clash_at
decreases-clash_at c = weights (wanteds (map wanted_of c.forms.now))
