use Rattle.std.proofs.Common.{◌≡◌, ◌++◌, map, take}
use Rattle.case_check.specs.Shapes.{AndShape}
use Rattle.case_check.specs.Trees.{shape_of, shapes_of}
use Rattle.case_check.proofs.fill.push_behind.Given as goal

abbrev pub invariant-loop-list : goal.invariant-loop-list
invariant-loop-list l =
    map shapes_of l.out ≡ map shapes_of l.fn.out ++ map (AndShape (shape_of l.first)) (map shapes_of (take l.list-index l.lists))
