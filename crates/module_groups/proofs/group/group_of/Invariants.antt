use Rattle.std.proofs.Common.{◌≡◌}
use Rattle.module_groups.specs.Search.{members_below}
use Rattle.module_groups.proofs.group.group_of.Given as goal

abbrev pub invariant-loop-b : goal.invariant-loop-b
invariant-loop-b l = l.members ≡ members_below l.reached l.a l.b
