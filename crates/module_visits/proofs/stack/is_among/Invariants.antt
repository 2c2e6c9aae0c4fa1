use Rattle.std.proofs.Common.{◌≡◌, false, take}
use Rattle.module_visits.specs.Visits.{is_among as has_name}
use Rattle.module_visits.proofs.stack.is_among.Given as goal

abbrev pub invariant-loop-found : goal.invariant-loop-found
invariant-loop-found l = has_name (take l.found-index l.modules) l.name ≡ false
