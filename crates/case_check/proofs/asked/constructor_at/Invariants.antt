use Rattle.std.proofs.Common.{◌≡◌, length}
use Rattle.case_check.specs.Asked as spec
use Rattle.case_check.proofs.asked.constructor_at.Given as goal

-- it isn't among those before
abbrev pub invariant-loop-rest : goal.invariant-loop-rest
invariant-loop-rest l = spec.thing_at l.«module» l.at l.rest ≡ spec.thing_at l.«module» l.at l.typed.resolved.meanings

abbrev pub decreases-loop-rest : goal.decreases-loop-rest
decreases-loop-rest l = length l.rest
