use Rattle.std.proofs.Common.{◌≡◌, length}
use Rattle.bit_rows.specs.Table.{bit_of}
use Rattle.type_faults.specs.Finding as spec
use Rattle.type_faults.proofs.whole.first_of.Given as goal

-- the first of what is left is the first of all
abbrev pub invariant-loop-left : goal.invariant-loop-left
invariant-loop-left l =
    spec.first_of l.types l.aliases (bit_of l.reached) l.left ≡ spec.first_of l.types l.aliases (bit_of l.reached) l.modules

abbrev pub decreases-loop-left : goal.decreases-loop-left
decreases-loop-left l = length l.left
