use Rattle.std.proofs.Common.{◌≡◌, [], ◌∷◌, map, length}
use Rattle.case_check.specs.Shapes.{Hole}
use Rattle.case_check.specs.Search as spec
use Rattle.case_check.specs.Trees.{shape_of, wanted_of}
use Rattle.case_check.proofs.search.left_after.Given as goal

-- the patterns that are left are still to be met
abbrev pub invariant-loop-rest : goal.invariant-loop-rest
invariant-loop-rest l =
    spec.left_after (map shape_of l.left) (map wanted_of l.rest) ≡ spec.left_after (Hole ∷ []) (map wanted_of l.forms)

abbrev pub decreases-loop-rest : goal.decreases-loop-rest
decreases-loop-rest l = length l.rest
