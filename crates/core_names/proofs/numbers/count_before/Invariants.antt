use Rattle.std.proofs.Common.{◌≡◌, ◌+◌, length}
use Rattle.plain_form.specs.Numbering.{number_before}
use Rattle.core_names.proofs.numbers.count_before.Given as goal

-- those so far and those that are left are all
abbrev pub invariant-loop-left : goal.invariant-loop-left
invariant-loop-left l = l.count + number_before l.at l.left ≡ number_before l.at l.places

abbrev pub decreases-loop-left : goal.decreases-loop-left
decreases-loop-left l = length l.left
