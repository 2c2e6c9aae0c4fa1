use Rattle.std.proofs.Common.{◌≡◌, ◌++◌, map, length}
use Rattle.plain_form.specs.Naming.{groups_at}
use Rattle.core_names.proofs.numbers.groups_of.Given as goal

-- those so far and those that are left are all
abbrev pub invariant-loop-left : goal.invariant-loop-left
invariant-loop-left l = map (λ members. members.now) l.found ++ groups_at l.«module» l.at l.left ≡ groups_at l.«module» l.at l.groups

abbrev pub decreases-loop-left : goal.decreases-loop-left
decreases-loop-left l = length l.left
