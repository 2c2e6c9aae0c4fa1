use Rattle.std.proofs.Common.{◌≡◌, ◌-◌, length, drop}
use Rattle.module_visits.specs.Stack.{behind_passed}
use Rattle.module_visits.proofs.visits.next_place.Given as goal

-- all before it are passed
abbrev pub invariant-imports : goal.invariant-imports
invariant-imports l = behind_passed l.ended (drop l.at l.imports) ≡ behind_passed l.ended (drop l.from l.imports)

abbrev pub decreases-imports : goal.decreases-imports
decreases-imports l = length l.imports - l.at
