use Rattle.std.proofs.Common.{◌≡◌, length}
use Rattle.bit_rows.specs.Table.{bit_of}
use Rattle.type_faults.specs.Finding.{first_by}
use Rattle.decl_faults.specs.Sense.{by_table}
use Rattle.decl_faults.specs.Flaws as flaws
use Rattle.decl_faults.specs.Deciding.{sensible}
use Rattle.decl_faults.proofs.whole.first_of.Given as goal

-- the first of what is left is the first of all
abbrev pub invariant-loop-left : goal.invariant-loop-left
invariant-loop-left l =
    first_by (flaws.faults_in sensible l.types l.aliases (bit_of l.reached) (by_table l.plains)) l.left
    ≡ first_by (flaws.faults_in sensible l.types l.aliases (bit_of l.reached) (by_table l.plains)) l.modules

abbrev pub decreases-loop-left : goal.decreases-loop-left
decreases-loop-left l = length l.left
