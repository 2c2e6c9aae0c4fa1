use Rattle.std.proofs.Common.{◌≡◌, map, length}
use Rattle.case_check.specs.Search as spec
use Rattle.case_check.specs.Trees.{shape_of, wanted_of}
use Rattle.case_check.proofs.search.first_of.Given as goal

-- none was found so far
abbrev pub invariant-loop-rest : goal.invariant-loop-rest
invariant-loop-rest l =
    spec.first_of (map wanted_of l.forms) (map shape_of l.rest) ≡ spec.first_of (map wanted_of l.forms) (map shape_of l.skeletons)

abbrev pub decreases-loop-rest : goal.decreases-loop-rest
decreases-loop-rest l = length l.rest
