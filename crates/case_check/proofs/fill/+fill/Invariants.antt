use Rattle.std.proofs.Common.{◌+◌, ◌*◌, map, length}
use Rattle.case_check.specs.Shapes.{wanteds, weight, weights}
use Rattle.case_check.specs.Trees.{wanted_of}
use Rattle.case_check.proofs.fill.+fill.Given as goal

-- how much the pattern asks for, and then the function
abbrev pub decreases-push_filled : goal.decreases-push_filled
decreases-push_filled c = 4 * weight (wanted_of c.form.now)

abbrev pub decreases-push_filled_choices : goal.decreases-push_filled_choices
decreases-push_filled_choices c = 3 + length c.union.now + 4 * weights (wanteds (map wanted_of c.asked.now))

abbrev pub decreases-push_filled_choice : goal.decreases-push_filled_choice
decreases-push_filled_choice c = 2 + 4 * weights (wanteds (map wanted_of c.asked.now))

abbrev pub decreases-push_filled_made : goal.decreases-push_filled_made
decreases-push_filled_made c = 1 + 4 * weights (wanteds (map wanted_of c.asked.now))

abbrev pub decreases-filled_at : goal.decreases-filled_at
decreases-filled_at c = 4 * weights (wanteds (map wanted_of c.forms.now))

abbrev pub decreases-filled_first : goal.decreases-filled_first
decreases-filled_first c = 3 + 4 * (weight (wanted_of c.form.now) + weights (wanteds (map wanted_of c.more.now)))
