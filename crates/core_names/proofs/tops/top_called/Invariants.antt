use Rattle.std.proofs.Common.{◌≡◌, length}
use Rattle.core_names.specs.Tables as spec
use Rattle.core_names.proofs.tops.top_called.Given as goal

-- the first of what is left is the first of all
abbrev pub invariant-loop-left : goal.invariant-loop-left
invariant-loop-left l = spec.top_called l.left l.«module» l.name ≡ spec.top_called l.tops l.«module» l.name

abbrev pub decreases-loop-left : goal.decreases-loop-left
decreases-loop-left l = length l.left
