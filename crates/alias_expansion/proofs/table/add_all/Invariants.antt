use Rattle.std.proofs.Common.{◌≡◌, length}
use Rattle.alias_expansion.specs.Table as spec
use Rattle.alias_expansion.proofs.table.add_all.Given as goal

-- what is left, from here on, adds what all add
abbrev pub invariant-loop-left : goal.invariant-loop-left
invariant-loop-left l = spec.passed l.types l.out l.left ≡ spec.passed l.types l.fn.out l.modules

abbrev pub decreases-loop-left : goal.decreases-loop-left
decreases-loop-left l = length l.left
