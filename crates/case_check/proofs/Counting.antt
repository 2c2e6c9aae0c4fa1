-- As many skeletons as there are in the list.
use Rattle.std.proofs.Common.{◌≡◌, suc, List, [], ◌∷◌, length, refl, ap}
use Rattle.case_check.specs.declared.skeleton.Skeleton.{Skeleton}
use Rattle.case_check.specs.Shapes.{count}
use Rattle.case_check.specs.Trees.{shapes_of}

pub count_shapes : (skeletons : List Skeleton) → count (shapes_of skeletons) ≡ length skeletons
count_shapes [] = refl
count_shapes (s ∷ ss) = ap suc (count_shapes ss)
