use Rattle.std.proofs.Common.{◌≡◌, ◌++◌, map, length}
use Rattle.core_definitions.specs.Definitions as spec
use Rattle.core_definitions.proofs.pass.group_from.Given as goal

-- those so far, and those that are left, are all
abbrev pub invariant-loop-left : goal.invariant-loop-left
invariant-loop-left l = map spec.made_of l.made ++ spec.definitions_from (spec.whole_of l.whole) l.group.«module» l.number l.left ≡ spec.definitions_from (spec.whole_of l.whole) l.group.«module» l.top l.group.members

abbrev pub decreases-loop-left : goal.decreases-loop-left
decreases-loop-left l = length l.left
