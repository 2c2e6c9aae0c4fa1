use Rattle.std.proofs.Common.{◌≡◌, map, length}
use Rattle.case_check.specs.Asked as spec
use Rattle.case_check.specs.Trees.{wanted_of}
use Rattle.case_check.proofs.asked.list_of.Given as goal

-- the parts that are left still stand in front
abbrev pub invariant-loop-part : goal.invariant-loop-part
invariant-loop-part l = spec.in_front (map wanted_of l.parts) (wanted_of l.form) ≡ spec.list_of (map wanted_of l.fn.parts)

abbrev pub decreases-loop-part : goal.decreases-loop-part
decreases-loop-part l = length l.parts
