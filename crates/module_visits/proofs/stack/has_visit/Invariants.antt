use Rattle.std.proofs.Common.{◌≡◌, false, take}
use Rattle.module_visits.specs.Stack.{has_visit as is_visited}
use Rattle.module_visits.proofs.stack.has_visit.Given as goal

abbrev pub invariant-loop-visit : goal.invariant-loop-visit
invariant-loop-visit l = is_visited (take l.visit-index l.visits) l.name ≡ false
