use Rattle.std.proofs.Common.{◌≡◌, length}
use Rattle.case_check.specs.Asked as spec
use Rattle.case_check.proofs.asked.union_with.Given as goal

-- it isn't among those before
abbrev pub invariant-loop-rest : goal.invariant-loop-rest
invariant-loop-rest l = spec.union_with l.«module» l.name l.rest ≡ spec.union_with l.«module» l.name l.unions

abbrev pub decreases-loop-rest : goal.decreases-loop-rest
decreases-loop-rest l = length l.rest
