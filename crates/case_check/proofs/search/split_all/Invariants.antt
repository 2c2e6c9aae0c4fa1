use Rattle.std.proofs.Common.{◌≡◌, map, take}
use Rattle.case_check.specs.Search as spec
use Rattle.case_check.specs.Trees.{shape_of, wanted_of}
use Rattle.case_check.proofs.search.split_all.Given as goal

abbrev pub invariant-loop-skeleton : goal.invariant-loop-skeleton
invariant-loop-skeleton l = map shape_of l.found ≡ spec.split_all (map shape_of (take l.skeleton-index l.skeletons)) (wanted_of l.form)
